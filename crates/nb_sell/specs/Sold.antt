-- What selling on one link does: to the journal, the merchant, the two links and the clock.
use Rattle.std.specs.Prelude.{◌≡◌, ◌⊎◌, ℕ, ◌≤◌, List, [], ◌∷◌, ◌++◌, Option, Some, None, ⊤, length, map}
use Rattle.nb_port.specs.Tells.{DiskTells}
use Rattle.nb_journal.specs.declared.journal.Journal.{Journal}
use Rattle.nb_journal.specs.Growing.{Grows}
use Rattle.nb_journal.specs.States.{AtRest}
use Rattle.nb_link.specs.Link.{LinkSeen}
use Rattle.nb_wire.specs.declared.receiving.Fetched.TheVariants as fetched
use Rattle.nb_wire.specs.declared.receiving.LinkEnd.{LinkEnd}
use Rattle.nb_wire.specs.declared.receiving.LinkEnd.TheVariants.{Ended, BadFrame, ReadFault}
use Rattle.nb_wire.specs.declared.sending.Sent.TheVariants.{All, Failed}
use Rattle.nb_stall.specs.Spelling.{item_bytes}
use Rattle.nb_merchant.specs.Laws.{kept_bytes}
use Rattle.nb_merchant.specs.Shop.{Shop}
use Rattle.nb_trade.specs.Lines.{Line, begun, LineGoes, FetchesOn}
use Rattle.nb_trade.specs.Keeping.{NotKept}
use Rattle.nb_trade.specs.declared.lost.Lost.{Lost}
use Rattle.nb_trade.specs.declared.lost.Lost.TheVariants as lost
use Rattle.nb_sell.specs.declared.peer.Peer.{Peer}
use Rattle.nb_sell.specs.declared.peer.Peer.TheVariants.{House, Consumer}
use Rattle.nb_sell.specs.declared.peer.Over.{Over}
use Rattle.nb_sell.specs.declared.peer.Over.TheVariants as over
use Rattle.nb_sell.specs.declared.ended.TheConstants.{MOST_FRAMES}
use Rattle.nb_sell.specs.declared.ended.SellEnd.{SellEnd}
use Rattle.nb_sell.specs.declared.ended.SellEnd.TheVariants as ends
use Rattle.nb_sell.specs.Run.{Act, Way, outset, behind, kept, bytes_to, frames_on, moments_of, Obeys, AreItems}

-- that of the house and that of the consumer
pub record Lines : Type 0 where
  pub house : Line
  pub consumer : Line

-- that of a peer
abbrev pub line_at : Peer → Lines → Line
line_at House lines = lines.house
line_at Consumer lines = lines.consumer

-- that of the other peer
abbrev pub other_line : Peer → Lines → Line
other_line House lines = lines.consumer
other_line Consumer lines = lines.house

-- what is sold with: the journal, the way, the two lines, and the moments that the clock gave
pub record Point (D : Type 0) : Type 0 where
  pub journal : Journal D
  pub way : Way
  pub lines : Lines
  pub clock : Option (List ℕ)

-- these as one
abbrev pub point : {D : Type 0} → Journal D → Way → Lines → Option (List ℕ) → Point D
point journal way lines clock = record { journal = journal; way = way; lines = lines; clock = clock }

-- a clock gave these moments, where it tells
abbrev pub Gave : Option (List ℕ) → Option (List ℕ) → List ℕ → Type 0
Gave old None moments = ⊤
Gave None (Some given) moments = ⊥
Gave (Some before) (Some given) moments = given ≡ before ++ moments

-- These acts were carried out, and nothing else: the journal grew by what they keep, the frames that they hear are those that came over each link, in order,
-- and no read was for another, what they send was sent to each, up to a write that failed, and their moments are what the clock gave, where the clock tells
pub record Went {D : Type 0} (tells : DiskTells D) (p q : Point D) (acts : List Act) : Type 0 where
  pub journal : Grows tells p.journal q.journal (map item_bytes (kept p.way acts))
  pub way : q.way ≡ behind p.way acts
  pub items : AreItems p.way acts
  pub house : LineGoes p.lines.house q.lines.house (frames_on House acts) (bytes_to House p.way acts)
  pub consumer : LineGoes p.lines.consumer q.lines.consumer (frames_on Consumer acts) (bytes_to Consumer p.way acts)
  pub clock : Gave p.clock q.clock (moments_of acts)

-- all that was to be sent was
pub record AllSent (lines : Lines) : Type 0 where
  pub house : lines.house.sent ≡ All
  pub consumer : lines.consumer.sent ≡ All

-- one behind the other: each from where the one before it came to, and only where all that was to be sent before it was
abbrev pub OneByOne : {D : Type 0} → DiskTells D → Point D → Point D → List Act → Type 0
OneByOne tells p q [] = q ≡ p
OneByOne {D} tells p q (a ∷ acts) = AllSent p.lines × ((mid : Point D) × Went tells p mid (a ∷ []) × OneByOne tells mid q acts)

-- ---- why nothing more is done

-- the message of the last act was sent to this peer, and a write of it failed. Before it all was sent
pub record Unsent {D : Type 0} (tells : DiskTells D) (p q : Point D) (acts : List Act) (peer : Peer) : Type 0 where
  pub before : List Act
  pub last : Act
  pub mid : Point D
  pub acts_are : acts ≡ before ++ last ∷ []
  pub first : Went tells p mid before
  pub more : Went tells mid q (last ∷ [])
  pub sent : AllSent mid.lines
  pub failed : (line_at peer q.lines).sent ≡ Failed

-- the link of a peer was read up to where no frame comes any more, and nothing else was done
pub record LineEnds {D : Type 0} (p q : Point D) (peer : Peer) (end : LinkEnd) : Type 0 where
  pub line : FetchesOn (line_at peer p.lines) (line_at peer q.lines) (fetched.End end)
  pub other : other_line peer q.lines ≡ other_line peer p.lines
  pub journal : q.journal ≡ p.journal
  pub way : q.way ≡ p.way
  pub clock : q.clock ≡ p.clock

-- Behind these acts, which came to a middle point: no frame comes any more over the link that is read, which was read up to there; a write to a link failed; the
-- last frame was ignored; as many frames of the consumer's link as are read were read, and the next would be one. At the last three nothing more was done
abbrev pub IsOverAt : {D : Type 0} → DiskTells D → (p mid q : Point D) → List Act → Over → Type 0
IsOverAt tells p mid q acts (over.NoFrame peer end) = LineEnds mid q peer end × AllSent mid.lines × (mid.way.awaits ≡ Some peer)
IsOverAt tells p mid q acts (over.WriteFault peer) = (q ≡ mid) × Unsent tells p mid acts peer
IsOverAt tells p mid q acts over.Ignored = (q ≡ mid) × AllSent mid.lines × (mid.way.awaits ≡ None)
IsOverAt tells p mid q acts over.Spent = (q ≡ mid) × AllSent mid.lines × (mid.way.awaits ≡ Some Consumer) × (length (frames_on Consumer acts) ≡ MOST_FRAMES)

-- how selling ends then: only a fault of the house's link is one of its own
abbrev pub end_for : Over → SellEnd
end_for (over.NoFrame House ReadFault) = ends.ServerFault
end_for (over.NoFrame House (Ended rest)) = ends.Ended
end_for (over.NoFrame House (BadFrame fault)) = ends.Ended
end_for (over.NoFrame Consumer end) = ends.Ended
end_for (over.WriteFault House) = ends.ServerFault
end_for (over.WriteFault Consumer) = ends.Ended
end_for over.Ignored = ends.Ended
end_for over.Spent = ends.Ended

-- acts that each may come where it comes were carried out, one behind the other
pub record Served {D : Type 0} (tells : DiskTells D) (p q : Point D) : Type 0 where
  pub acts : List Act
  pub obeys : Obeys p.way acts
  pub went : Went tells p q acts
  pub each : OneByOne tells p q acts
  pub few : length (frames_on Consumer acts) ≤ MOST_FRAMES

-- and nothing more is done, for this reason
pub record Stopped {D : Type 0} (tells : DiskTells D) (p q : Point D) (why : Over) : Type 0 where
  pub mid : Point D
  pub served : Served tells p mid
  pub over : IsOverAt tells p mid q served.acts why

-- ---- an act that was not carried out

-- what the merchant is then: what it is behind the act, and for want of memory that or what it was before it
abbrev pub KnowsOf : Way → Shop → List Act → Lost → Type 0
KnowsOf w shop acts lost.NoMemory = (shop ≡ w.shop) ⊎ ((shop ≡ (behind w acts).shop) × AreItems w acts)
KnowsOf w shop acts (lost.Full cap) = (shop ≡ (behind w acts).shop) × AreItems w acts
KnowsOf w shop acts (lost.DiskFault before after) = (shop ≡ (behind w acts).shop) × AreItems w acts

-- what was to be kept of an act, or of none, was not, and nothing of it was sent. Its frame was read, and its moment given
pub record Loses {D : Type 0} (tells : DiskTells D) (p q : Point D) (acts : List Act) (why : Lost) : Type 0 where
  pub journal : NotKept tells p.journal q.journal (map item_bytes (kept p.way acts)) why
  pub shop : KnowsOf p.way q.way.shop acts why
  pub house : LineGoes p.lines.house q.lines.house (frames_on House acts) []
  pub consumer : LineGoes p.lines.consumer q.lines.consumer (frames_on Consumer acts) []
  pub clock : Gave p.clock q.clock (moments_of acts)

-- Acts were carried out, all that they send was sent, and the last, if there is one, was not carried out. No more of the consumer's frames were heard than are read
pub record SellLost {D : Type 0} (tells : DiskTells D) (p q : Point D) (why : Lost) : Type 0 where
  pub mid : Point D
  pub served : Served tells p mid
  pub sent : AllSent mid.lines
  pub last : List Act
  pub one : length last ≤ 1
  pub few : length (frames_on Consumer (served.acts ++ last)) ≤ MOST_FRAMES
  pub obeys : Obeys p.way (served.acts ++ last)
  pub loses : Loses tells mid q last why

-- ---- selling

-- the journal is at rest with what the merchant kept and with nothing else, so that a merchant that starts again with its items is this one
abbrev pub IsJournalOf : {D : Type 0} → DiskTells D → Journal D → Shop → Type 0
IsJournalOf tells journal shop = (front : List ℕ) × AtRest tells front (kept_bytes shop) journal

-- what stands around selling, before it or behind it
pub record Around (D : Type 0) : Type 0 where
  pub journal : Journal D
  pub shop : Shop
  pub house : LinkSeen
  pub consumer : LinkSeen
  pub clock : Option (List ℕ)

-- these as one
abbrev pub around : {D : Type 0} → Journal D → Shop → LinkSeen → LinkSeen → Option (List ℕ) → Around D
around journal shop house consumer clock = record { journal = journal; shop = shop; house = house; consumer = consumer; clock = clock }

-- before it nothing was received and sent
abbrev pub first_point : {D : Type 0} → Around D → Point D
first_point a = point a.journal (outset a.shop) (record { house = begun a.house; consumer = begun a.consumer }) a.clock

-- behind it stands what stands at a point
pub record IsLast {D : Type 0} (q : Point D) (a : Around D) : Type 0 where
  pub journal : a.journal ≡ q.journal
  pub shop : a.shop ≡ q.way.shop
  pub house : a.house ≡ q.lines.house.wire.link
  pub consumer : a.consumer ≡ q.lines.consumer.wire.link
  pub clock : a.clock ≡ q.clock

-- from one point to another it was sold, for a reason that ends so
pub record StoppedAs {D : Type 0} (tells : DiskTells D) (p q : Point D) (end : SellEnd) : Type 0 where
  pub why : Over
  pub ends : end_for why ≡ end
  pub stopped : Stopped tells p q why

-- it was sold, and ended so
abbrev pub EndsAt : {D : Type 0} → DiskTells D → Point D → Point D → SellEnd → Type 0
EndsAt tells p q ends.Ended = StoppedAs tells p q ends.Ended
EndsAt tells p q ends.ServerFault = StoppedAs tells p q ends.ServerFault
EndsAt tells p q (ends.DiskFault before after) = SellLost tells p q (lost.DiskFault before after)
EndsAt tells p q (ends.Full cap) = SellLost tells p q (lost.Full cap)
EndsAt tells p q ends.NoMemory = SellLost tells p q lost.NoMemory

-- no item was lost: the journal grew by each that a step kept
abbrev pub NothingLost : SellEnd → Type 0
NothingLost ends.Ended = Unit {0}
NothingLost ends.ServerFault = Unit {0}
NothingLost other = ⊥

-- it was sold on a link, and ended so
pub record Sold {D : Type 0} (tells : DiskTells D) (old new : Around D) (end : SellEnd) : Type 0 where
  pub last : Point D
  pub last_is : IsLast last new
  pub ended : EndsAt tells (first_point old) last end
