-- For the contracts of private functions alone: the steps of a purchase.
use Rattle.std.specs.Prelude.{◌≡◌, ◌⊎◌, ℕ, ◌+◌, ◌*◌, ◌<◌, ◌≤◌, ◌==◌, ◌&&◌, not, if◌then◌else◌, Bool, true, false, List, [], ◌∷◌, Option, Some, None, Result, Ok, Err, length}
use Rattle.std.specs.List.{AllByRecursion}
use Rattle.std.specs.Io.KnownBytes.{Appends}
use Rattle.nb_port.specs.Tells.{DiskTells}
use Rattle.nb_port.specs.Faults.{Rose}
use Rattle.nb_journal.specs.declared.journal.Journal.{Journal}
use Rattle.nb_journal.specs.declared.limits.TheConstants.{MAX_ITEM}
use Rattle.nb_journal.specs.Growing.{Grows}
use Rattle.nb_link.specs.Link.{LinkSeen}
use Rattle.nb_units.specs.Frames.{Frame}
use Rattle.nb_units.specs.declared.frames.TheConstants.{HEADER, MAX_BODY, REFUSED_REPLY}
use Rattle.nb_frame.specs.State.{Collected, unfed}
use Rattle.nb_msgs.specs.declared.node.Step.{Step}
use Rattle.nb_msgs.specs.declared.node.Step.TheVariants as step
use Rattle.nb_wire.specs.Received.{wire, Fetches, EndsAs}
use Rattle.nb_wire.specs.Sent.{WroteOn, OnlyWrites, SentPart}
use Rattle.nb_wire.specs.declared.sending.Sent.{Sent}
use Rattle.nb_wire.specs.declared.sending.Sent.TheVariants.{All, Failed}
use Rattle.nb_wire.specs.declared.receiving.LinkEnd.{LinkEnd}
use Rattle.nb_wire.specs.declared.receiving.Fetched.{Fetched}
use Rattle.nb_wire.specs.declared.receiving.Fetched.TheVariants as fetched
use Rattle.nb_wallet.specs.declared.wallet.Start.{Start}
use Rattle.nb_consumer.specs.declared.phase.Phase.{Phase}
use Rattle.nb_consumer.specs.State.{Buyer, purchase_of}
use Rattle.nb_consumer.specs.Goods.{IsOpen, HasEnded, goods_in}
use Rattle.nb_msgs.specs.Steps.{kept_in}
use Rattle.nb_buy.specs.declared.peer.Peer.{Peer}
use Rattle.nb_buy.specs.declared.peer.Peer.TheVariants.{House, Seller}
use Rattle.nb_buy.specs.declared.peer.Over.TheVariants as over
use Rattle.nb_buy.specs.declared.peer.Next.{Next}
use Rattle.nb_buy.specs.declared.peer.Next.TheVariants as next
use Rattle.nb_buy.specs.declared.hearing.Listened.{Listened}
use Rattle.nb_buy.specs.declared.ended.TheConstants.{MOST_FRAMES}
use Rattle.nb_buy.specs.declared.ended.Lost.{Lost}
use Rattle.nb_buy.specs.declared.sides.Side.{Side}
use Rattle.nb_buy.specs.declared.sides.Sides.{Sides}
use Rattle.nb_buy.specs.declared.ended.Lost.TheVariants as lost
use Rattle.nb_buy.specs.declared.ended.BuyEnd.{BuyEnd}
use Rattle.nb_buy.specs.declared.ended.BuyEnd.TheVariants as ends
use Rattle.nb_buy.specs.declared.trading.TradeEnd.{TradeEnd}
use Rattle.nb_buy.specs.declared.trading.TradeEnd.TheVariants as trades
use Rattle.nb_buy.specs.declared.standing.Standing.{Standing}
use Rattle.nb_buy.specs.declared.standing.Standing.TheVariants as stands
use Rattle.nb_buy.specs.Run.{Act, Hears, step_at, peer_of, bytes_in, frames_of, phase_for, IsOrdered, opened_by}
use Rattle.nb_buy.specs.Lines.{Line, Lines, line_at}
use Rattle.nb_buy.specs.Bought.{Point, Went, NotKept, Loses, IsOverAt, IsSpoilt, way_of, Traded, Finished, Stopped, Spent, TradeLost, WritesGoods}

-- ---- the two lines

-- a link, and what is held beside it
abbrev pub line_of : LinkSeen → Side → Line
line_of link side = record { wire = wire link side.frames; sent = side.sent }

-- both
abbrev pub lines_of : LinkSeen → LinkSeen → Sides → Lines
lines_of server seller sides = record { house = line_of server sides.house; seller = line_of seller sides.seller }

-- that of the other peer
abbrev pub other_line : Peer → Lines → Line
other_line House lines = lines.seller
other_line Seller lines = lines.house

-- the reader of a peer's frames
abbrev pub held_at : Peer → Sides → Collected
held_at House sides = sides.house.frames
held_at Seller sides = sides.seller.frames

-- nothing was received and sent
pub record AreBegun (sides : Sides) : Type 0 where
  pub house : sides.house.frames ≡ unfed
  pub house_sent : sides.house.sent ≡ All
  pub seller : sides.seller.frames ≡ unfed
  pub seller_sent : sides.seller.sent ≡ All
  pub read : sides.read ≡ 0

-- so many frames were given out that all of their bytes are near
pub record IsNear (sides : Sides) : Type 0 where
  pub house : sides.house.frames.taken ≤ (HEADER + MAX_BODY) * sides.read
  pub seller : sides.seller.frames.taken ≤ (HEADER + MAX_BODY) * sides.read
  pub few : sides.read ≤ MOST_FRAMES

-- and one more may be
pub record CanRead (sides : Sides) : Type 0 where
  pub near : IsNear sides
  pub few : sides.read < MOST_FRAMES

-- how many frames were read then
abbrev pub read_behind : ℕ → Fetched → ℕ
read_behind read (fetched.Frame f) = read + 1
read_behind read (fetched.End end) = read

-- what comes next over the line of a peer, and nothing else was done
pub record FetchIs (from : Peer) (old new : Lines) (out : Fetched) : Type 0 where
  pub fetches : Fetches (line_at from old).wire (line_at from new).wire out
  pub sent : (line_at from new).sent ≡ (line_at from old).sent
  pub other : other_line from new ≡ other_line from old

-- the readers are as they were, and so many frames were read
pub record SameReaders (old new : Sides) : Type 0 where
  pub house : new.house.frames ≡ old.house.frames
  pub seller : new.seller.frames ≡ old.seller.frames
  pub read : new.read ≡ old.read

-- these bytes were sent to a line, or a part where it failed, and nothing else was done
pub record Says (old new : Line) (bytes : List ℕ) : Type 0 where
  pub wrote : WroteOn old.sent new.sent old.wire.link new.wire.link bytes
  pub only : OnlyWrites old.wire.link new.wire.link
  pub held : new.wire.held ≡ old.wire.held

-- to the line of a peer, and to the other nothing
pub record SaysTo (peer : Peer) (old new : Lines) (bytes : List ℕ) (sent : Sent) : Type 0 where
  pub says : Says (line_at peer old) (line_at peer new) bytes
  pub told : sent ≡ (line_at peer new).sent
  pub other : other_line peer new ≡ other_line peer old

-- ---- one step of the consumer

-- none of its items is longer than one may be
abbrev pub AreShort : List (List ℕ) → Type 0
AreShort items = AllByRecursion (λ item. length item ≤ MAX_ITEM) items

-- the journal grew by the items, one or none, or they were not kept
abbrev pub Keeps : {D : Type 0} → DiskTells D → Journal D → Journal D → List (List ℕ) → Result (Unit {0}) Lost → Type 0
Keeps tells old new items (Ok done) = Grows tells old new items
Keeps tells old new items (Err why) = NotKept tells old new items why

-- an item, if there is one
abbrev pub items_of : Option (List ℕ) → List (List ℕ)
items_of (Some item) = item ∷ []
items_of None = []

-- what is done next behind a message to a peer that was sent so
abbrev pub next_sent : Peer → Sent → Next
next_sent peer All = next.Awaits peer
next_sent peer Failed = next.Over peer over.WriteFault

-- behind a step, where the answer of this peer was waited for: these are the lines then
abbrev pub next_behind : Peer → Step → Lines → Next
next_behind from (step.Move keep whom message) lines = next_sent (peer_of whom) (line_at (peer_of whom) lines).sent
next_behind from (step.Ended keep end) lines = next.Awaits from
next_behind from (step.Ignored why) lines = next.Awaits from

-- a step was carried out: what it keeps is kept, and then what it sends is sent; or it was not kept, and nothing was sent
abbrev pub Acts : {D : Type 0} → DiskTells D → Journal D → Journal D → Lines → Lines → Peer → Step → Result Next Lost → Type 0
Acts tells old new before behind from done (Ok next) =
    Grows tells old new (kept_in done) × Says before.house behind.house (bytes_in House done) × Says before.seller behind.seller (bytes_in Seller done)
    × (next ≡ next_behind from done behind)
Acts tells old new before behind from done (Err why) = NotKept tells old new (kept_in done) why × (behind ≡ before)

-- ---- one act

-- an act was carried out, or what was to be kept of it was not
abbrev pub Carries : {D : Type 0} → DiskTells D → Start → Point D → Point D → Peer → Act → Result Next Lost → Type 0
Carries tells s p q from a (Ok next) = Went tells s p q (a ∷ []) × (next ≡ next_behind from (step_at s p.buyer a) q.lines)
Carries tells s p q from a (Err why) = Loses tells s p q (a ∷ []) why

-- behind a frame: a refusal ends what was waited for
abbrev pub next_heard : Peer → ℕ → Next → Next
next_heard from kind behind = if kind == REFUSED_REPLY then next.Over from over.Refused else behind

-- a frame of a peer was heard, or none comes any more, and nothing was done
abbrev pub HeardAs : {D : Type 0} → DiskTells D → Start → Point D → Point D → Peer → Next → Option Frame → Type 0
HeardAs tells s p q from n None = Went tells s p q [] × ((end : LinkEnd) × (n ≡ next.Over from (over.Ended end)) × EndsAs (line_at from p.lines).wire (line_at from q.lines).wire end)
HeardAs tells s p q from n (Some f) = Went tells s p q (Hears from f ∷ []) × (n ≡ next_heard from f.kind (next_behind from (step_at s p.buyer (Hears from f)) q.lines))

-- how many these are
abbrev pub frames_heard : Option Frame → ℕ
frames_heard (Some f) = 1
frames_heard None = 0

-- the goods that the step at a frame of a peer opened, if one was heard
abbrev pub opened_at : Start → Buyer → Peer → Option Frame → Option (List ℕ)
opened_at s b from (Some f) = opened_by (step_at s b (Hears from f))
opened_at s b from None = None

-- goods that were opened, if any were, are those of the purchase, where it is over
abbrev pub AreItsGoods : Start → Buyer → Option (List ℕ) → Type 0
AreItsGoods s b opened = (goods : List ℕ) → opened ≡ Some goods → HasEnded (phase_for s b) → goods_in (purchase_of b s.transaction) ≡ Some goods

-- a frame of the peer was heard, or none comes any more, with so many frames read before it and behind it, and these goods were opened; or a frame was read, and could not be
-- taken in: there was no memory, or what was to be kept of it was not
abbrev pub Listens : {D : Type 0} → DiskTells D → Start → Point D → Point D → Peer → ℕ → ℕ → Result Listened Lost → Type 0
Listens tells s p q from read read' (Ok x) =
    (heard : Option Frame) × HeardAs tells s p q from x.next heard × (read' ≡ read + frames_heard heard) × (x.opened ≡ opened_at s p.buyer from heard)
Listens tells s p q from read read' (Err why) = (f : Frame) × Loses tells s p q (Hears from f ∷ []) why

-- ---- a trade

-- how far the purchase is
abbrev pub StandsAs : Option Phase → Standing → Type 0
StandsAs told stands.Unknown = told ≡ None
StandsAs told (stands.Going true) = IsOrdered told
StandsAs told (stands.Going false) = IsOpen told × (IsOrdered told → ⊥)
StandsAs told stands.Ended = HasEnded told

-- it is over
abbrev pub is_over : Standing → Bool
is_over stands.Ended = true
is_over (stands.Going ordered) = false
is_over stands.Unknown = false

-- the house may be asked for want of the answer of a peer
abbrev pub may_ask_for : Bool → Peer → Standing → Bool
may_ask_for asked House standing = false
may_ask_for asked Seller (stands.Going ordered) = ordered && not asked
may_ask_for asked Seller stands.Unknown = false
may_ask_for asked Seller stands.Ended = false

-- whose answer was waited for
abbrev pub peer_in : Next → Peer
peer_in (next.Awaits peer) = peer
peer_in (next.Over peer why) = peer

-- it is not waited for any more, for this reason
abbrev pub OverIs : {D : Type 0} → Point D → Point D → List Act → Next → Type 0
OverIs p q acts (next.Awaits peer) = Unit {0}
OverIs p q acts (next.Over peer why) = IsOverAt p q acts peer why

-- An answer that is waited for was asked for: no write to its peer failed, and the last act heard no refusal. One that is waited for no more because of a refusal: the
-- last act heard that
abbrev pub IsClear : Lines → Bool → Next → Type 0
IsClear lines refused (next.Awaits peer) = ((line_at peer lines).sent ≡ All) × (refused ≡ false)
IsClear lines refused (next.Over peer why) = why ≡ over.Refused → refused ≡ true

-- nothing more comes of the seller
abbrev pub IsOfSeller : Next → Type 0
IsOfSeller (next.Awaits peer) = ⊥
IsOfSeller (next.Over House why) = ⊥
IsOfSeller (next.Over Seller why) = Unit {0}

-- there is a purchase
abbrev pub IsKnown : Option Phase → Type 0
IsKnown (Some told) = Unit {0}
IsKnown None = ⊥

-- a purchase came from one point to another, so many frames were read, this is done next, and the house was asked for want of the seller's answer, or not
pub record Ran {D : Type 0} (tells : DiskTells D) (s : Start) (p q : Point D) (asked : Bool) (next : Next) (read : ℕ) : Type 0 where
  pub traded : Traded tells s p q
  pub awaits : (way_of s p.buyer traded.acts).awaits ≡ Some (peer_in next)
  pub asked_is : (way_of s p.buyer traded.acts).asked ≡ asked
  pub known : IsKnown (phase_for s q.buyer)
  pub over : OverIs p q traded.acts next
  pub clear : IsClear q.lines (way_of s p.buyer traded.acts).refused next
  pub told : IsSpoilt q traded.acts → (asked ≡ true) ⊎ IsOfSeller next
  pub count : length (frames_of traded.acts) ≡ read

-- a purchase is over, and the last act opened these goods, or none
abbrev pub FinishedOpening : {D : Type 0} → DiskTells D → Start → Point D → Point D → Option (List ℕ) → Type 0
FinishedOpening tells s p q opened = (f : Finished tells s p q) × (opened ≡ (way_of s p.buyer f.traded.acts).opened)

-- a purchase was started, or its last message was sent again, or it is over and no goods were opened
abbrev pub StartsOrResumes : {D : Type 0} → DiskTells D → Start → Point D → Point D → Result (Option Next) Lost → Type 0
StartsOrResumes tells s p q (Ok (Some next)) = Ran tells s p q false next 0 × IsOpen (phase_for s q.buyer)
StartsOrResumes tells s p q (Ok None) = FinishedOpening tells s p q None
StartsOrResumes tells s p q (Err why) = TradeLost tells s p q why

-- how a trade ended: the purchase is over, and the goods that its last act opened are its own; it is not over, and why no more is done; or memory or the disk was wanting
abbrev pub Trades : {D : Type 0} → DiskTells D → Start → Point D → Point D → Result TradeEnd Lost → Type 0
Trades tells s p q (Ok (trades.Finished opened)) = FinishedOpening tells s p q opened × AreItsGoods s q.buyer opened
Trades tells s p q (Ok (trades.Stopped peer why)) = Stopped tells s p q peer why
Trades tells s p q (Ok trades.Spent) = Spent tells s p q
Trades tells s p q (Err why) = TradeLost tells s p q why

-- ---- the output

-- the goods of a paid purchase were written, all of them or a part; one without goods has none; or there was no memory for them
abbrev pub Finishes : Start → Buyer → ℕ → ℕ → Option (List ℕ) → Option (List ℕ) → BuyEnd → Type 0
Finishes s b before after old new ends.Paid = WritesGoods s b before after old new ends.Paid
Finishes s b before after old new ends.SinkFault = WritesGoods s b before after old new ends.SinkFault
Finishes s b before after old new ends.Unpaid = WritesGoods s b before after old new ends.Unpaid
Finishes s b before after old new (ends.Lost lost.NoMemory) = Unit {0}
Finishes s b before after old new other = ⊥

-- all of the bytes were written, or a part, and then a write failed
abbrev pub WritesOut : ℕ → ℕ → Option (List ℕ) → Option (List ℕ) → List ℕ → Sent → Type 0
WritesOut before after old new bytes All = Appends old new bytes
WritesOut before after old new bytes Failed = Rose before after × SentPart old new bytes
