-- What holds of every purchase that was made.
use Rattle.std.specs.Prelude.{◌≡◌, ◌≢◌, ◌⊎◌, ℕ, ◌+◌, ◌≤◌, ◌==◌, if◌then◌else◌, List, [], ◌∷◌, ◌++◌, length, take, Option, Some, None, Result, Ok}
use Rattle.std.specs.List.{flat_map}
use Rattle.nb_port.specs.Faults.{Rose}
use Rattle.nb_link.specs.Link.{LinkSeen}
use Rattle.nb_units.specs.Frames.{Frame, frame, IsFrame}
use Rattle.nb_units.specs.declared.frames.TheConstants.{REFUSED_REPLY}
use Rattle.nb_port.specs.Tells.{DiskTells}
use Rattle.nb_journal.specs.Stands.{Stands}
use Rattle.nb_journal.specs.States.{AtRest}
use Rattle.nb_journal.specs.Growing.{StandsAmong}
use Rattle.nb_wallet.specs.declared.wallet.Start.{Start}
use Rattle.nb_consumer.specs.State.{Buyer, purchase_of}
use Rattle.nb_body.specs.declared.end.End.{End}
use Rattle.nb_msgs.specs.declared.node.Reason.{Reason}
use Rattle.nb_consumer.specs.declared.deed.Deed.{Deed}
use Rattle.nb_consumer.specs.declared.deed.Deed.TheVariants as deed
use Rattle.nb_consumer.specs.Goods.{HasEnded, goods_in, goods_at, phase_at}
use Rattle.nb_consumer.specs.Restart.{restarted, untold, Kept}
use Rattle.nb_consumer.specs.declared.phase.Phase.{Phase}
use Rattle.nb_consumer.specs.declared.phase.Phase.TheVariants as phase
use Rattle.nb_buy.specs.declared.peer.Peer.{Peer}
use Rattle.nb_buy.specs.declared.peer.Peer.TheVariants.{House, Seller}
use Rattle.nb_buy.specs.declared.ended.TheConstants.{MOST_FRAMES}
use Rattle.nb_buy.specs.declared.ended.Lost.TheVariants as lost
use Rattle.nb_buy.specs.declared.ended.BuyEnd.{BuyEnd}
use Rattle.nb_buy.specs.declared.ended.BuyEnd.TheVariants as ends
use Rattle.nb_buy.specs.Run.{Act, Starts, Hears, Waits, act_row, buyer_behind, kept_by, frames_on, frames_of, phase_for, outset, Obeys}
use Rattle.nb_buy.specs.Bought.{Point, Around, EndsAt, first_point, Bought, WritesGoods}

-- the acts of a purchase, with the one that was not carried out, if there is one
abbrev pub acts_at : {D : Type 0} (tells : DiskTells D) (s : Start) (p q : Point D) (end : BuyEnd) → EndsAt tells s p q end → List Act
acts_at tells s p q ends.Paid e = e.traded.acts
acts_at tells s p q ends.Unpaid e = e.traded.acts
acts_at tells s p q ends.SinkFault e = e.traded.acts
acts_at tells s p q (ends.Stopped peer why) e = e.traded.acts
acts_at tells s p q ends.Spent e = e.traded.acts
acts_at tells s p q (ends.Lost why) e = e.traded.acts ++ e.last

-- so of a purchase that was made
abbrev pub acts_of : {D : Type 0} (tells : DiskTells D) (s : Start) (old new : Around D) (end : BuyEnd) → Bought tells s old new end → List Act
acts_of tells s old new end b = acts_at tells s (first_point old) b.last end b.ended

-- a stop at any moment of a purchase leaves the items of the journal with the first so many of those that its acts keep
abbrev pub StopLeavesFirst : {D : Type 0} → DiskTells D → Type 0
StopLeavesFirst {D} tells = (s : Start) (old new : Around D) (end : BuyEnd) (b : Bought tells s old new end) (front : List ℕ) (items : List (List ℕ)) → AtRest tells front items old.journal
    → (image : List ℕ) → tells.left new.journal.disk (tells.moment old.journal.disk) image → StandsAmong front items (kept_by s old.buyer (acts_of tells s old new end b)) image

-- behind the first k acts, this is what the journal holds, and a wallet that starts again with that is as the consumer was then, but for the places that it
-- was told
pub record GoesOn (s : Start) (b : Buyer) (items : List (List ℕ)) (acts : List Act) (front : List ℕ) (image : List ℕ) : Type 0 where
  pub k : ℕ
  pub within : k ≤ length acts
  pub stands : Stands front (items ++ kept_by s b (take k acts)) image
  pub again : restarted b.wallet (items ++ kept_by s b (take k acts)) ≡ Ok (untold (buyer_behind s b (take k acts)))

-- of a wallet that starts again with what its journal holds: whatever a stop at any moment of a purchase leaves, it goes on from there next time
abbrev pub GoesOnNextTime : {D : Type 0} → DiskTells D → Type 0
GoesOnNextTime {D} tells = (s : Start) (old new : Around D) (end : BuyEnd) (b : Bought tells s old new end) (front : List ℕ) (items : List (List ℕ)) → AtRest tells front items old.journal
    → Kept items old.buyer
    → (image : List ℕ) → tells.left new.journal.disk (tells.moment old.journal.disk) image → GoesOn s old.buyer items (acts_of tells s old new end b) front image

-- a purchase that is over ends so, or there was no memory
abbrev pub IsEndOfOver : BuyEnd → Type 0
IsEndOfOver ends.Paid = Unit {0}
IsEndOfOver ends.Unpaid = Unit {0}
IsEndOfOver ends.SinkFault = Unit {0}
IsEndOfOver (ends.Lost lost.NoMemory) = Unit {0}
IsEndOfOver other = ⊥

-- what is done of a purchase that is over: no act, and so nothing is kept, no frame is heard and nothing is sent
abbrev pub OverDoesNothing : {D : Type 0} → DiskTells D → Type 0
OverDoesNothing {D} tells = (s : Start) (old new : Around D) (end : BuyEnd) (b : Bought tells s old new end) → HasEnded (phase_for s old.buyer)
    → IsEndOfOver end × (acts_of tells s old new end b ≡ []) × (new.buyer ≡ old.buyer)

-- a purchase that ended as paid, made again with a wallet that started again, whatever its other words are: it ends as one that is over, and its goods are the same
abbrev pub PaidAgain : {D : Type 0} → DiskTells D → Type 0
PaidAgain {D} tells = (s again : Start) (old new old' new' : Around D) (end : BuyEnd) → Bought tells s old new ends.Paid → again.transaction ≡ s.transaction → old'.buyer ≡ untold new.buyer
    → Bought tells again old' new' end
    → IsEndOfOver end × (goods_in (purchase_of new'.buyer again.transaction) ≡ goods_in (purchase_of new.buyer s.transaction))

-- how a row ends the purchase of this number, if it does
abbrev pub ends_with : ℕ → Result Deed Reason → Option End
ends_with transaction (Ok (deed.Ends number receipt how)) = if number == transaction then Some how else None
ends_with transaction other = None

-- it did not end for want of memory or of the disk
abbrev pub IsCarriedOut : BuyEnd → Type 0
IsCarriedOut (ends.Lost why) = ⊥
IsCarriedOut other = Unit {0}

-- A purchase of which a receipt was heard is over as that says, whatever came before it and behind it: it is paid, and has the goods that the receipt's key
-- opens the held bytes to, or it was refused, or the key opens nothing; and so it ends
abbrev pub ReceiptEnds : {D : Type 0} → DiskTells D → Type 0
ReceiptEnds {D} tells = (s : Start) (old new : Around D) (end : BuyEnd) (b : Bought tells s old new end) (before later : List Act) (a : Act) (how : End) → IsCarriedOut end
    → acts_of tells s old new end b ≡ before ++ a ∷ later → ends_with s.transaction (act_row s (buyer_behind s old.buyer before) a) ≡ Some how
    → IsEndOfOver end × (phase_for s new.buyer ≡ Some (phase_at how)) × (goods_in (purchase_of new.buyer s.transaction) ≡ goods_at how)

-- ---- a purchase that links bring to its end

-- frames are heard one after another, and none of them is a refusal
abbrev pub AreHeard : List Act → Type 0
AreHeard [] = Unit {0}
AreHeard (Hears from f ∷ acts) = IsFrame f × (f.kind ≢ REFUSED_REPLY) × AreHeard acts
AreHeard (Starts ∷ acts) = ⊥
AreHeard (Waits ∷ acts) = ⊥

-- the purchase is started, or its last message sent again, and then such frames are heard; or nothing is done
abbrev pub AreBrought : List Act → Type 0
AreBrought [] = Unit {0}
AreBrought (Starts ∷ acts) = AreHeard acts
AreBrought (Waits ∷ acts) = AreHeard acts
AreBrought (Hears from f ∷ acts) = ⊥

-- the link of a peer
abbrev pub link_at : {D : Type 0} → Peer → Around D → LinkSeen
link_at House a = a.house
link_at Seller a = a.seller

-- the bytes that a link gives begin with these frames
abbrev pub Gives : LinkSeen → List Frame → Type 0
Gives link frames = (rest : List ℕ) × (link.left ≡ Some (flat_map frame frames ++ rest))

-- The links bring the purchase to its end by these acts: each may come where it comes, their frames are the first that each link gives, they are no more than are
-- read for one purchase, and behind the last one the purchase is over
pub record IsBrought (s : Start) (b : Buyer) (at_house at_seller : LinkSeen) (acts : List Act) : Type 0 where
  pub each : AreBrought acts
  pub obeys : Obeys s b outset acts
  pub house : Gives at_house (frames_on House acts)
  pub seller : Gives at_seller (frames_on Seller acts)
  pub few : length (frames_of acts) ≤ MOST_FRAMES
  pub over : HasEnded (phase_for s (buyer_behind s b acts))

-- no count rose, the output's count of failed writes, which is told before and behind, among them
pub record NoneFails {D : Type 0} (tells : DiskTells D) (old new : Around D) (before after : ℕ) : Type 0 where
  pub disk : Rose (tells.faults old.journal.disk) (tells.faults new.journal.disk) → ⊥
  pub reads : (peer : Peer) → Rose (link_at peer old).read_faults (link_at peer new).read_faults → ⊥
  pub writes : (peer : Peer) → Rose (link_at peer old).write_faults (link_at peer new).write_faults → ⊥
  pub output : Rose before after → ⊥

-- how a purchase ends that is over: with its goods where it has some, and else without
abbrev pub EndsAsOver : Option Phase → BuyEnd → Type 0
EndsAsOver (Some (phase.Paid len)) end = end ≡ ends.Paid
EndsAsOver (Some (phase.Refused code)) end = end ≡ ends.Unpaid
EndsAsOver (Some phase.Foul) end = end ≡ ends.Unpaid
EndsAsOver other end = ⊥

-- A purchase that the links bring to its end, with a wallet that has room for the items, where nothing fails, comes to that end: the consumer knows then what it
-- knows behind these acts, and the goods are written where it has some; or there was no memory
abbrev pub ComesToItsEnd : {D : Type 0} → DiskTells D → Type 0
ComesToItsEnd {D} tells = (s : Start) (old new : Around D) (end : BuyEnd) → Bought tells s old new end
    → (before after : ℕ) (sent sent' : Option (List ℕ)) → WritesGoods s new.buyer before after sent sent' end
    → (front : List ℕ) (items : List (List ℕ)) → AtRest tells front items old.journal
    → (acts : List Act) → IsBrought s old.buyer old.house old.seller acts → length items + length (kept_by s old.buyer acts) ≤ old.journal.cap
    → NoneFails tells old new before after
    → (end ≡ ends.Lost lost.NoMemory) ⊎ ((new.buyer ≡ buyer_behind s old.buyer acts) × EndsAsOver (phase_for s new.buyer) end)

-- the most frames that are read for one purchase
abbrev pub LimitIs : Type 0
LimitIs = MOST_FRAMES ≡ 10000
