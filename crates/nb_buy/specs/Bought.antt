-- What buying does: to the journal, the consumer, the two links and the output.
use Rattle.std.specs.Prelude.{◌≡◌, ◌⊎◌, ℕ, ◌≤◌, Bool, true, List, [], ◌∷◌, ◌++◌, Option, Some, None, length}
use Rattle.std.specs.Io.KnownBytes.{Appends}
use Rattle.nb_port.specs.Tells.{DiskTells}
use Rattle.nb_port.specs.Faults.{Rose}
use Rattle.nb_journal.specs.declared.journal.Journal.{Journal}
use Rattle.nb_journal.specs.Stands.{BeforeOrAfter}
use Rattle.nb_journal.specs.States.{AtRest, InDoubt}
use Rattle.nb_journal.specs.Growing.{Grows, StopsIn}
use Rattle.nb_link.specs.Link.{LinkSeen}
use Rattle.nb_wallet.specs.declared.wallet.Start.{Start}
use Rattle.nb_consumer.specs.declared.phase.Phase.{Phase}
use Rattle.nb_consumer.specs.declared.phase.Phase.TheVariants as phase
use Rattle.nb_consumer.specs.State.{Buyer, purchase_of}
use Rattle.nb_consumer.specs.Goods.{IsOpen, HasEnded, goods_in}
use Rattle.nb_wire.specs.Sent.{SentPart}
use Rattle.nb_wire.specs.declared.sending.Sent.TheVariants.{All, Failed}
use Rattle.nb_buy.specs.declared.peer.Peer.{Peer}
use Rattle.nb_buy.specs.declared.peer.Peer.TheVariants.{House, Seller}
use Rattle.nb_buy.specs.declared.peer.Over.{Over}
use Rattle.nb_buy.specs.declared.peer.Over.TheVariants as over
use Rattle.nb_buy.specs.declared.ended.TheConstants.{MOST_FRAMES}
use Rattle.nb_buy.specs.declared.ended.Lost.{Lost}
use Rattle.nb_buy.specs.declared.ended.Lost.TheVariants as lost
use Rattle.nb_buy.specs.declared.ended.BuyEnd.{BuyEnd}
use Rattle.nb_buy.specs.declared.ended.BuyEnd.TheVariants as ends
use Rattle.nb_units.specs.Frames.{Frame}
use Rattle.nb_buy.specs.Run.{Act, Hears, Waits, buyer_behind, kept_by, AreSpelled, bytes_to, frames_on, frames_of, phase_for, IsOrdered, Way, outset, way_behind, Obeys}
use Rattle.nb_buy.specs.Lines.{Line, Lines, line_at, begun, LineGoes, HasRefusal, IsOver}

-- what a purchase is made with
pub record Point (D : Type 0) : Type 0 where
  pub journal : Journal D
  pub buyer : Buyer
  pub lines : Lines

-- these as one
abbrev pub point : {D : Type 0} → Journal D → Buyer → Lines → Point D
point journal buyer lines = record { journal = journal; buyer = buyer; lines = lines }

-- these acts were carried out, and nothing else: the journal grew by what they keep, and the frames that they hear are those that came over each link, in
-- order, and what they send was sent to each, up to a write that failed
pub record Went {D : Type 0} (tells : DiskTells D) (s : Start) (p q : Point D) (acts : List Act) : Type 0 where
  pub journal : Grows tells p.journal q.journal (kept_by s p.buyer acts)
  pub buyer : q.buyer ≡ buyer_behind s p.buyer acts
  pub spelled : AreSpelled s p.buyer acts
  pub house : LineGoes p.lines.house q.lines.house (frames_on House acts) (bytes_to House s p.buyer acts)
  pub seller : LineGoes p.lines.seller q.lines.seller (frames_on Seller acts) (bytes_to Seller s p.buyer acts)

-- the way of a purchase that is begun with these acts
abbrev pub way_of : Start → Buyer → List Act → Way
way_of s b acts = way_behind s b outset acts

-- nothing more is waited for over the line of a peer, behind these acts
abbrev pub IsOverAt : {D : Type 0} → Point D → Point D → List Act → Peer → Over → Type 0
IsOverAt p q acts peer why = IsOver (line_at peer p.lines) (line_at peer q.lines) (frames_on peer acts) why

-- where that is because of a refusal, the last act heard it
abbrev pub IsLastRefusal : Start → Buyer → List Act → Over → Type 0
IsLastRefusal s b acts why = why ≡ over.Refused → (way_of s b acts).refused ≡ true

-- ---- the house is asked

-- why the house was asked: what was done before, behind which the seller's answer was waited for and nothing more came of it, and what was done later
pub record AskedFor {D : Type 0} (tells : DiskTells D) (s : Start) (p q : Point D) (acts : List Act) : Type 0 where
  pub before : List Act
  pub later : List Act
  pub mid : Point D
  pub why : Over
  pub acts_are : acts ≡ before ++ Waits ∷ later
  pub first : Went tells s p mid before
  pub more : Went tells s mid q (Waits ∷ later)
  pub awaited : (way_of s p.buyer before).awaits ≡ Some Seller
  pub over_is : IsOverAt p mid before Seller why
  pub refused : IsLastRefusal s p.buyer before why

-- a refusal came from the seller, or a write to it failed
abbrev pub IsSpoilt : {D : Type 0} → Point D → List Act → Type 0
IsSpoilt q acts = HasRefusal (frames_on Seller acts) ⊎ (q.lines.seller.sent ≡ Failed)

-- the house had its turn: of a purchase that was ordered it was asked where nothing more came of the seller
abbrev pub HadItsTurn : Option Phase → Bool → Peer → Type 0
HadItsTurn told asked House = Unit {0}
HadItsTurn told asked Seller = IsOrdered told → asked ≡ true

-- ---- how it went

-- A write to a peer failed: it was of one of these acts or of a later one, what those before it send to the peer was sent, and behind it no frame of that peer was heard
pub record FailedWithin (s : Start) (b : Buyer) (peer : Peer) (old new : Line) (acts : List Act) : Type 0 where
  pub before : List Act
  pub act : Act
  pub later : List Act
  pub mid : Line
  pub acts_are : acts ≡ before ++ act ∷ later
  pub first : LineGoes old mid (frames_on peer before) (bytes_to peer s b before)
  pub all : mid.sent ≡ All
  pub more : LineGoes mid new (frames_on peer (act ∷ later)) (bytes_to peer s (buyer_behind s b before) (act ∷ later))
  pub unheard : frames_on peer later ≡ []

-- acts that each may come where it comes were carried out, and no peer was heard behind a write to it that failed
pub record Traded {D : Type 0} (tells : DiskTells D) (s : Start) (p q : Point D) : Type 0 where
  pub acts : List Act
  pub obeys : Obeys s p.buyer outset acts
  pub went : Went tells s p q acts
  pub failed : (peer : Peer) → (line_at peer q.lines).sent ≡ Failed → FailedWithin s p.buyer peer (line_at peer p.lines) (line_at peer q.lines) acts
  pub asked_for : (way_of s p.buyer acts).asked ≡ true → AskedFor tells s p q acts

-- no more frames were heard than are read for one purchase
abbrev pub AreFew : List Act → Type 0
AreFew acts = length (frames_of acts) ≤ MOST_FRAMES

-- the purchase is over
pub record Finished {D : Type 0} (tells : DiskTells D) (s : Start) (p q : Point D) : Type 0 where
  pub traded : Traded tells s p q
  pub few : AreFew traded.acts
  pub over : HasEnded (phase_for s q.buyer)

-- it is not, the answer of this peer is waited for, nothing more comes of that, and where it is the seller the house had its turn
pub record Stopped {D : Type 0} (tells : DiskTells D) (s : Start) (p q : Point D) (peer : Peer) (why : Over) : Type 0 where
  pub traded : Traded tells s p q
  pub few : AreFew traded.acts
  pub going : IsOpen (phase_for s q.buyer)
  pub awaited : (way_of s p.buyer traded.acts).awaits ≡ Some peer
  pub over : IsOverAt p q traded.acts peer why
  pub refused : IsLastRefusal s p.buyer traded.acts why
  pub turn : HadItsTurn (phase_for s q.buyer) (way_of s p.buyer traded.acts).asked peer

-- it is not, and as many frames were heard as are read; where a refusal came from the seller, or a write to it failed, the house had its turn
pub record Spent {D : Type 0} (tells : DiskTells D) (s : Start) (p q : Point D) : Type 0 where
  pub traded : Traded tells s p q
  pub going : IsOpen (phase_for s q.buyer)
  pub count : length (frames_of traded.acts) ≡ MOST_FRAMES
  pub turn : IsSpoilt q traded.acts → (way_of s p.buyer traded.acts).asked ≡ true

-- ---- an act that was not carried out

-- why these items, one or none, were not kept: there was no memory, or as many items are held as may be, and nothing was done; or the disk failed. Then
-- the item is in doubt, and a stop meanwhile left the items without it or with it
abbrev pub NotKept : {D : Type 0} → DiskTells D → Journal D → Journal D → List (List ℕ) → Lost → Type 0
NotKept tells old new items lost.NoMemory = new ≡ old
NotKept tells old new items (lost.Full cap) = (new ≡ old) × (cap ≡ old.cap) × (old.cap ≤ old.len) × ((item : List ℕ) × (items ≡ item ∷ []))
NotKept {D} tells old new items (lost.DiskFault before after) =
    (before ≡ tells.faults old.disk) × (after ≡ tells.faults new.disk) × Rose before after
    × ((item : List ℕ) × (items ≡ item ∷ [])
    × ((front : List ℕ) (held : List (List ℕ)) → AtRest tells front held old
    → InDoubt tells front held item new × StopsIn tells old.disk new.disk (BeforeOrAfter front held item)))

-- what the consumer knows then: what it knows behind the act, and for want of memory that or what it knew before it
abbrev pub KnowsOf : Start → Buyer → Buyer → List Act → Lost → Type 0
KnowsOf s b c acts lost.NoMemory = (c ≡ b) ⊎ ((c ≡ buyer_behind s b acts) × AreSpelled s b acts)
KnowsOf s b c acts (lost.Full cap) = (c ≡ buyer_behind s b acts) × AreSpelled s b acts
KnowsOf s b c acts (lost.DiskFault before after) = (c ≡ buyer_behind s b acts) × AreSpelled s b acts

-- what was to be kept of an act, or of none, was not, and nothing of it was sent. A frame that it hears was read
pub record Loses {D : Type 0} (tells : DiskTells D) (s : Start) (p q : Point D) (acts : List Act) (why : Lost) : Type 0 where
  pub journal : NotKept tells p.journal q.journal (kept_by s p.buyer acts) why
  pub buyer : KnowsOf s p.buyer q.buyer acts why
  pub house : LineGoes p.lines.house q.lines.house (frames_on House acts) []
  pub seller : LineGoes p.lines.seller q.lines.seller (frames_on Seller acts) []

-- there was no memory to begin, or none for the goods of a purchase that is over, which the last act did not open
abbrev pub WantedMemory : {D : Type 0} → Start → Point D → Point D → List Act → Type 0
WantedMemory s p q acts = (acts ≡ []) ⊎ (HasEnded (phase_for s q.buyer) × ((way_of s p.buyer acts).opened ≡ None))

-- Acts were carried out, and the last, if there is one, was not. Where it asks the house for want of the seller's answer, nothing more came of that, and where it
-- hears a peer, no write to that failed. Where there is none, memory was wanted before the first act or behind the last
pub record TradeLost {D : Type 0} (tells : DiskTells D) (s : Start) (p q : Point D) (why : Lost) : Type 0 where
  pub mid : Point D
  pub traded : Traded tells s p mid
  pub last : List Act
  pub one : length last ≤ 1
  pub few : AreFew (traded.acts ++ last)
  pub obeys : Obeys s p.buyer outset (traded.acts ++ last)
  pub loses : Loses tells s mid q last why
  pub asks : last ≡ Waits ∷ [] → (way_of s p.buyer traded.acts).awaits ≡ Some Seller → (why : Over) × IsOverAt p mid traded.acts Seller why × IsLastRefusal s p.buyer traded.acts why
  pub hears : (from : Peer) (f : Frame) → last ≡ Hears from f ∷ [] → (line_at from mid.lines).sent ≡ All
  pub memory : last ≡ [] → WantedMemory s p mid traded.acts

-- ---- buying

-- what stands around buying, before it or behind it
pub record Around (D : Type 0) : Type 0 where
  pub journal : Journal D
  pub buyer : Buyer
  pub house : LinkSeen
  pub seller : LinkSeen

-- these as one
abbrev pub around : {D : Type 0} → Journal D → Buyer → LinkSeen → LinkSeen → Around D
around journal buyer house seller = record { journal = journal; buyer = buyer; house = house; seller = seller }

-- before it nothing was received and sent
abbrev pub first_point : {D : Type 0} → Around D → Point D
first_point a = point a.journal a.buyer (record { house = begun a.house; seller = begun a.seller })

-- behind it stands what stands at a point
pub record IsLast {D : Type 0} (q : Point D) (a : Around D) : Type 0 where
  pub journal : a.journal ≡ q.journal
  pub buyer : a.buyer ≡ q.buyer
  pub house : a.house ≡ q.lines.house.wire.link
  pub seller : a.seller ≡ q.lines.seller.wire.link

-- from one point to another a purchase was made that ended so
abbrev pub EndsAt : {D : Type 0} → DiskTells D → Start → Point D → Point D → BuyEnd → Type 0
EndsAt tells s p q ends.Paid = Finished tells s p q
EndsAt tells s p q ends.Unpaid = Finished tells s p q
EndsAt tells s p q ends.SinkFault = Finished tells s p q
EndsAt tells s p q (ends.Stopped peer why) = Stopped tells s p q peer why
EndsAt tells s p q ends.Spent = Spent tells s p q
EndsAt tells s p q (ends.Lost why) = TradeLost tells s p q why

-- a purchase was made, and ended so
pub record Bought {D : Type 0} (tells : DiskTells D) (s : Start) (old new : Around D) (end : BuyEnd) : Type 0 where
  pub last : Point D
  pub last_is : IsLast last new
  pub ended : EndsAt tells s (first_point old) last end

-- ---- the output

-- the purchase is over and has no goods: it was refused, or its key opens nothing
abbrev pub IsUnpaid : Option Phase → Type 0
IsUnpaid (Some (phase.Refused code)) = Unit {0}
IsUnpaid (Some phase.Foul) = Unit {0}
IsUnpaid other = ⊥

-- What was written, by the counts of failed writes, what had been written, and how the purchase ended: the goods of a purchase that was paid, all of
-- them, or a part from their front and then a write failed. One that ended so without goods has none
abbrev pub WritesGoods : Start → Buyer → ℕ → ℕ → Option (List ℕ) → Option (List ℕ) → BuyEnd → Type 0
WritesGoods s b before after old new ends.Paid = (goods : List ℕ) × (goods_in (purchase_of b s.transaction) ≡ Some goods) × Appends old new goods
WritesGoods s b before after old new ends.SinkFault =
    (goods : List ℕ) × (goods_in (purchase_of b s.transaction) ≡ Some goods) × Rose before after × SentPart old new goods
WritesGoods s b before after old new ends.Unpaid = IsUnpaid (phase_for s b)
WritesGoods s b before after old new other = Unit {0}

-- at these ends nothing was written
abbrev pub IsUnwritten : BuyEnd → Type 0
IsUnwritten ends.Paid = ⊥
IsUnwritten ends.SinkFault = ⊥
IsUnwritten other = Unit {0}
