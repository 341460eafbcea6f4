-- For the contracts of private functions alone: the steps of selling.
use Rattle.std.specs.Prelude.{◌≡◌, ℕ, ◌+◌, ◌*◌, ◌<◌, ◌≤◌, List, [], ◌∷◌, Option, Some, None, Result, Ok, Err, OnOk, OnErr, IfOk, length}
use Rattle.std.specs.List.{AllByRecursion}
use Rattle.nb_port.specs.Tells.{DiskTells}
use Rattle.nb_journal.specs.declared.journal.Journal.{Journal}
use Rattle.nb_journal.specs.Growing.{Grows}
use Rattle.nb_link.specs.Link.{LinkSeen}
use Rattle.nb_units.specs.declared.NoMemory.{NoMemory}
use Rattle.nb_units.specs.declared.ids.PartyId.{PartyId}
use Rattle.nb_units.specs.declared.frames.TheConstants.{HEADER, MAX_BODY}
use Rattle.nb_msgs.specs.Bodies.{message_bytes, MessageKeepsRules}
use Rattle.nb_msgs.specs.declared.node.Reason.{Reason}
use Rattle.nb_msgs.specs.declared.node.Step.{Step}
use Rattle.nb_msgs.specs.declared.node.Step.TheVariants as step
use Rattle.nb_msgs.specs.declared.node.To.TheVariants as to
use Rattle.nb_wire.specs.declared.receiving.LinkEnd.{LinkEnd}
use Rattle.nb_wire.specs.declared.sending.Sent.{Sent}
use Rattle.nb_wire.specs.declared.sending.Sent.TheVariants.{All, Failed}
use Rattle.nb_stall.specs.Spelling.{IsItem}
use Rattle.nb_merchant.specs.declared.answer.Answer.{Answer}
use Rattle.nb_merchant.specs.Shop.{Shop}
use Rattle.nb_merchant.specs.Table as table
use Rattle.nb_trade.specs.Lines.{line_of, IsBegun, Says}
use Rattle.nb_trade.specs.Keeping.{items_of, AreShort, NotKept}
use Rattle.nb_trade.specs.declared.lost.Lost.{Lost}
use Rattle.nb_trade.specs.declared.lost.Lost.TheVariants as lost
use Rattle.nb_sell.specs.declared.ended.SellEnd.{SellEnd}
use Rattle.nb_sell.specs.declared.ended.SellEnd.TheVariants as ends
use Rattle.nb_sell.specs.declared.peer.Peer.{Peer}
use Rattle.nb_sell.specs.declared.peer.Peer.TheVariants.{House, Consumer}
use Rattle.nb_sell.specs.declared.peer.Over.{Over}
use Rattle.nb_sell.specs.declared.peer.Over.TheVariants as over
use Rattle.nb_sell.specs.declared.peer.Next.{Next}
use Rattle.nb_sell.specs.declared.peer.Next.TheVariants as next
use Rattle.nb_sell.specs.declared.ended.TheConstants.{MOST_FRAMES}
use Rattle.nb_sell.specs.declared.hearing.Stepped.{Stepped}
use Rattle.nb_sell.specs.declared.sides.Sides.{Sides}
use Rattle.nb_sell.specs.Run.{Act, way, last_in, act_row, only_of, link_for, peer_in, frame_in, frames_on}
use Rattle.nb_sell.specs.Sold.{Lines, line_at, other_line, Point, point, Went, AllSent, LineEnds, IsOverAt, Served, Stopped, Loses, SellLost}

-- ---- the two lines

-- both links, with what is held beside them
abbrev pub lines_of : LinkSeen → LinkSeen → Sides → Lines
lines_of server link sides = record { house = line_of server sides.house; consumer = line_of link sides.consumer }

-- nothing was received and sent
pub record AreBegun (sides : Sides) : Type 0 where
  pub house : IsBegun sides.house
  pub consumer : IsBegun sides.consumer
  pub read : sides.read ≡ 0
  pub last : sides.last ≡ None

-- what a frame of a peer may have at most
abbrev pub reach : Peer → ℕ
reach House = HEADER + MAX_BODY
reach Consumer = 0

-- so many frames of the consumer's link were read that all bytes that were given out are near, also where a frame of this peer is read next
pub record IsNear (peer : Peer) (sides : Sides) : Type 0 where
  pub house : sides.house.frames.taken + reach peer ≤ (HEADER + MAX_BODY) * sides.read
  pub consumer : sides.consumer.frames.taken ≤ (HEADER + MAX_BODY) * sides.read
  pub few : sides.read ≤ MOST_FRAMES

-- behind a frame of the house none of it is read
abbrev pub IsTurn : Peer → Peer → Type 0
IsTurn House House = ⊥
IsTurn House Consumer = Unit {0}
IsTurn Consumer peer = Unit {0}

-- what may be read next is near
abbrev pub IsNearAt : Next → Sides → Type 0
IsNearAt (next.Awaits peer) sides = IsNear peer sides
IsNearAt (next.Over why) sides = Unit {0}

-- one frame of a peer more may be read
abbrev pub FewMore : Peer → ℕ → Type 0
FewMore House read = read ≤ MOST_FRAMES
FewMore Consumer read = read < MOST_FRAMES

-- this is done next behind a frame of a peer
abbrev pub IsNext : Peer → Next → Type 0
IsNext from (next.Awaits peer) = IsTurn from peer
IsNext from (next.Over why) = Unit {0}

-- the readers are as they were, and so many frames were read, and that message was last read
pub record SameReaders (old new : Sides) : Type 0 where
  pub house : new.house.frames ≡ old.house.frames
  pub consumer : new.consumer.frames ≡ old.consumer.frames
  pub read : new.read ≡ old.read
  pub last : new.last ≡ old.last

-- these bytes were sent to the line of a peer, and to the other nothing
pub record SaysTo (peer : Peer) (old new : Lines) (bytes : List ℕ) (sent : Sent) : Type 0 where
  pub says : Says (line_at peer old) (line_at peer new) bytes
  pub told : sent ≡ (line_at peer new).sent
  pub other : other_line peer new ≡ other_line peer old

-- ---- one step of the merchant

-- a step is what a row says, and the merchant then is what it says; what it keeps is within its limits; after want of memory all is as before
pub record Answers (old new : Shop) (row : Result Answer Reason) (result : Result Step NoMemory) : Type 0 where
  pub told : IfOk result (λ step. step ≡ table.step_of row)
  pub after : OnOk result (new ≡ table.after old row)
  pub items : OnOk result (AllByRecursion IsItem (table.kept_by row))
  pub err : OnErr result (new ≡ old)

-- the step of what was heard
abbrev pub of_heard : Result Stepped NoMemory → Result Step NoMemory
of_heard (Ok heard) = Ok heard.step
of_heard (Err none) = Err none

-- the message of a step can be written. A merchant's purchases do not end by a step
abbrev pub IsLawful : Step → Type 0
IsLawful (step.Move keep whom message) = MessageKeepsRules message
IsLawful (step.Ended keep end) = ⊥
IsLawful (step.Ignored why) = Unit {0}

-- it sends nothing to the house
abbrev pub IsForNoHouse : Step → Type 0
IsForNoHouse (step.Move keep to.Server message) = ⊥
IsForNoHouse other = Unit {0}

-- the items that it keeps, one or none
abbrev pub items_in : Step → List (List ℕ)
items_in (step.Move keep whom message) = items_of keep
items_in (step.Ended keep end) = keep ∷ []
items_in (step.Ignored why) = []

-- none is longer than one may be
abbrev pub IsShort : Step → Type 0
IsShort done = AreShort (items_in done)

-- the bytes that it sends to a peer, where this consumer's message was last read
abbrev pub bytes_of : Peer → Option PartyId → Step → List ℕ
bytes_of peer last (step.Move keep whom message) = only_of peer (link_for last whom) (message_bytes message)
bytes_of peer last (step.Ended keep end) = []
bytes_of peer last (step.Ignored why) = []

-- what is done next behind a message to a peer that was sent so
abbrev pub next_sent : Peer → Sent → Next
next_sent peer All = next.Awaits peer
next_sent peer Failed = next.Over (over.WriteFault peer)

-- behind one that went to this link, or to none: these are the lines then
abbrev pub next_to : Option Peer → Lines → Next
next_to None lines = next.Awaits Consumer
next_to (Some peer) lines = next_sent peer (line_at peer lines).sent

-- behind a step
abbrev pub next_step : Option PartyId → Step → Lines → Next
next_step last (step.Move keep whom message) lines = next_to (link_for last whom) lines
next_step last (step.Ended keep end) lines = next.Over over.Ignored
next_step last (step.Ignored why) lines = next.Over over.Ignored

-- a step was carried out: what it keeps is kept, and then what it sends is sent; or it was not kept, and nothing was sent
abbrev pub Acts : {D : Type 0} → DiskTells D → Journal D → Journal D → Lines → Lines → Option PartyId → Step → Result Next Lost → Type 0
Acts tells old new before behind last done (Ok n) =
    Grows tells old new (items_in done) × Says before.house behind.house (bytes_of House last done) × Says before.consumer behind.consumer (bytes_of Consumer last done)
    × (n ≡ next_step last done behind)
Acts tells old new before behind last done (Err why) = NotKept tells old new (items_in done) why × (behind ≡ before)

-- ---- one act

-- these as a point
abbrev pub at : {D : Type 0} → Journal D → Shop → Lines → Option (List ℕ) → Option PartyId → Option Peer → Point D
at journal shop lines clock last awaits = point journal (way shop last awaits) lines clock

-- whose frame is read where nothing more is done
abbrev pub over_awaits : Over → Option Peer
over_awaits (over.NoFrame peer end) = Some peer
over_awaits (over.WriteFault peer) = Some peer
over_awaits over.Ignored = None
over_awaits over.Spent = Some Consumer

-- whose frame is read next
abbrev pub next_awaits : Next → Option Peer
next_awaits (next.Awaits peer) = Some peer
next_awaits (next.Over why) = over_awaits why

-- the same, where it is not said what is next
abbrev pub done_awaits : Result Next Lost → Option Peer
done_awaits (Ok n) = next_awaits n
done_awaits (Err why) = None

-- behind a row: these are the lines then
abbrev pub next_behind : Option PartyId → Result Answer Reason → Lines → Next
next_behind last (Ok answer) lines = next_to (link_for last answer.to) lines
next_behind last (Err why) lines = next.Over over.Ignored

-- a frame of a peer was heard, or none comes any more, and nothing was done
abbrev pub HeardAs : {D : Type 0} → DiskTells D → Point D → Point D → Peer → Next → Option Act → Type 0
HeardAs tells p q from n None = (end : LinkEnd) × (n ≡ next.Over (over.NoFrame from end)) × LineEnds p q from end
HeardAs tells p q from n (Some a) = (from ≡ peer_in a) × Went tells p q (a ∷ []) × (n ≡ next_behind (last_in p.way a) (act_row p.way.shop a) q.lines)

-- how many frames of the consumer's link these are
abbrev pub frames_heard : Option Act → ℕ
frames_heard (Some a) = length (frame_in Consumer a)
frames_heard None = 0

-- so it went, and so many frames were read before it and behind it; or a frame was read, and what was to be kept of it was not
abbrev pub Listens : {D : Type 0} → DiskTells D → Point D → Point D → Peer → ℕ → ℕ → Result Next Lost → Type 0
Listens tells p q from read read' (Ok n) = (heard : Option Act) × HeardAs tells p q from n heard × (read' ≡ read + frames_heard heard)
Listens tells p q from read read' (Err why) = (a : Act) × (from ≡ peer_in a) × Loses tells p q (a ∷ []) why

-- ---- the way of a link

-- all was sent, or nothing more is done
abbrev pub StandsAt : {D : Type 0} → DiskTells D → (p mid q : Point D) → List Act → Next → Type 0
StandsAt tells p mid q acts (next.Awaits peer) = (q ≡ mid) × AllSent mid.lines
StandsAt tells p mid q acts (next.Over why) = IsOverAt tells p mid q acts why

-- it came from one point to another, so many frames of the consumer's link were read, and this is done next
pub record Ran {D : Type 0} (tells : DiskTells D) (p q : Point D) (n : Next) (read : ℕ) : Type 0 where
  pub mid : Point D
  pub served : Served tells p mid
  pub stands : StandsAt tells p mid q served.acts n
  pub count : length (frames_on Consumer served.acts) ≡ read

-- a link was served up to where nothing more is done, or a step was lost
abbrev pub Serves : {D : Type 0} → DiskTells D → Point D → Point D → Result Over Lost → Type 0
Serves tells p q (Ok why) = Stopped tells p q why
Serves tells p q (Err why) = SellLost tells p q why

-- whose frame was to be read then
abbrev pub end_awaits : Result Over Lost → Option Peer
end_awaits (Ok why) = over_awaits why
end_awaits (Err why) = None

-- how selling ends where a step was lost
abbrev pub lost_end : Lost → SellEnd
lost_end lost.NoMemory = ends.NoMemory
lost_end (lost.Full cap) = ends.Full cap
lost_end (lost.DiskFault before after) = ends.DiskFault before after
