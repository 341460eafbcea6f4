-- What holds of everything that was sold on a link.
use Rattle.std.specs.Prelude.{◌≡◌, ◌⊎◌, ℕ, ◌≤◌, List, ◌∷◌, ◌++◌, Some, None, Ok, map, length, take}
use Rattle.nb_port.specs.Tells.{DiskTells}
use Rattle.nb_journal.specs.Stands.{Stands}
use Rattle.nb_journal.specs.States.{AtRest}
use Rattle.nb_journal.specs.Growing.{StandsAmong}
use Rattle.nb_units.specs.Frames.{Frame}
use Rattle.nb_units.specs.declared.epoid.Epoid.{Epoid}
use Rattle.nb_units.specs.declared.ids.PartyId.{PartyId}
use Rattle.nb_units.specs.declared.frames.TheConstants.{REFUSED_REPLY}
use Rattle.nb_msgs.specs.declared.message.Message.{Message}
use Rattle.nb_msgs.specs.declared.message.Message.TheVariants as message
use Rattle.nb_msgs.specs.declared.node.To.TheVariants as to
use Rattle.nb_stall.specs.declared.purchase.Purchase.{Purchase}
use Rattle.nb_stall.specs.declared.sale.Sale.{Sale}
use Rattle.nb_stall.specs.Spelling.{item_bytes}
use Rattle.nb_stall.specs.Messages.{endorsed_message}
use Rattle.nb_stall.specs.Sales.{sale_in}
use Rattle.nb_merchant.specs.declared.answer.Answer.{Answer}
use Rattle.nb_merchant.specs.Shop.{Shop, new_shop, unkept}
use Rattle.nb_merchant.specs.Table.{ordered, passes_again}
use Rattle.nb_merchant.specs.Keeping.{IsKept, restarted}
use Rattle.nb_merchant.specs.Laws.{kept_bytes}
use Rattle.nb_sell.specs.declared.ended.TheConstants.{MOST_FRAMES}
use Rattle.nb_sell.specs.declared.ended.SellEnd.{SellEnd}
use Rattle.nb_sell.specs.declared.ended.SellEnd.TheVariants as ends
use Rattle.nb_sell.specs.Run.{Act, Hears, Told, act_row, awaited, outset, behind, kept, AreItems}
use Rattle.nb_sell.specs.Sold.{Point, Around, first_point, EndsAt, NothingLost, Sold}

-- the acts on a link, with the one that was not carried out, if there is one
abbrev pub acts_at : {D : Type 0} (tells : DiskTells D) (p q : Point D) (end : SellEnd) → EndsAt tells p q end → List Act
acts_at tells p q ends.Ended e = e.stopped.served.acts
acts_at tells p q ends.ServerFault e = e.stopped.served.acts
acts_at tells p q (ends.DiskFault before after) e = e.served.acts ++ e.last
acts_at tells p q (ends.Full cap) e = e.served.acts ++ e.last
acts_at tells p q ends.NoMemory e = e.served.acts ++ e.last

-- so of what was sold
abbrev pub acts_of : {D : Type 0} (tells : DiskTells D) (old new : Around D) (end : SellEnd) → Sold tells old new end → List Act
acts_of tells old new end s = acts_at tells (first_point old) s.last end s.ended

-- a stop at any moment leaves the items of the journal with the first so many of those that the acts keep
abbrev pub StopLeavesFirst : {D : Type 0} → DiskTells D → Type 0
StopLeavesFirst {D} tells = (old new : Around D) (end : SellEnd) (s : Sold tells old new end) (front : List ℕ) (items : List (List ℕ)) → AtRest tells front items old.journal
    → (image : List ℕ) → tells.left new.journal.disk (tells.moment old.journal.disk) image
    → StandsAmong front items (map item_bytes (kept (outset old.shop) (acts_of tells old new end s))) image

-- behind the first k acts, this is what the journal holds, and a merchant that starts again with that, and sells and offers what it did, is as it was then
pub record GoesOn (shop : Shop) (acts : List Act) (front : List ℕ) (image : List ℕ) : Type 0 where
  pub k : ℕ
  pub within : k ≤ length acts
  pub then : Shop
  pub is : then ≡ (behind (outset shop) (take k acts)).shop
  pub stands : Stands front (kept_bytes then) image
  pub again : restarted (unkept shop) 0 (kept_bytes then) ≡ Ok then

-- where the journal holds what the merchant kept: whatever a stop at any moment leaves, the merchant goes on from there next time
abbrev pub GoesOnNextTime : {D : Type 0} → DiskTells D → Type 0
GoesOnNextTime {D} tells = (old new : Around D) (end : SellEnd) (s : Sold tells old new end) (front : List ℕ) → AtRest tells front (kept_bytes old.shop) old.journal → IsKept old.shop
    → (image : List ℕ) → tells.left new.journal.disk (tells.moment old.journal.disk) image → GoesOn old.shop (acts_of tells old new end s) front image

-- of these acts those that were carried out
abbrev pub done_at : {D : Type 0} (tells : DiskTells D) (p q : Point D) (end : SellEnd) → EndsAt tells p q end → List Act
done_at tells p q ends.Ended e = e.stopped.served.acts
done_at tells p q ends.ServerFault e = e.stopped.served.acts
done_at tells p q (ends.DiskFault before after) e = e.served.acts
done_at tells p q (ends.Full cap) e = e.served.acts
done_at tells p q ends.NoMemory e = e.served.acts

-- what the journal held, and what was kept on the link, is never more than its cap
abbrev pub KeepsWithin : {D : Type 0} → DiskTells D → Type 0
KeepsWithin {D} tells = (old new : Around D) (end : SellEnd) (s : Sold tells old new end) (front : List ℕ) (items : List (List ℕ)) → AtRest tells front items old.journal
    → length (items ++ map item_bytes (kept (outset old.shop) (done_at tells (first_point old) s.last end s.ended))) ≤ old.journal.cap

-- it ends as full only where it is: what the journal held, and what was kept on the link, is as much as its cap
abbrev pub FullIsFull : {D : Type 0} → DiskTells D → Type 0
FullIsFull {D} tells = (old new : Around D) (cap : ℕ) (s : Sold tells old new (ends.Full cap)) (front : List ℕ) (items : List (List ℕ)) → AtRest tells front items old.journal
    → AtRest tells front (items ++ map item_bytes (kept (outset old.shop) s.ended.served.acts)) new.journal
    × (length (items ++ map item_bytes (kept (outset old.shop) s.ended.served.acts)) ≡ cap) × (new.journal.cap ≡ old.journal.cap) × (cap ≡ old.journal.cap)

-- where the journal held what the merchant kept, and no item was lost, it holds what the merchant kept
abbrev pub StaysKept : {D : Type 0} → DiskTells D → Type 0
StaysKept {D} tells = (old new : Around D) (end : SellEnd) → Sold tells old new end → NothingLost end → (front : List ℕ) → AtRest tells front (kept_bytes old.shop) old.journal → IsKept old.shop
    → AtRest tells front (kept_bytes new.shop) new.journal × IsKept new.shop

-- this order of a purchase is answered with this message to the house, or, where it was settled since, with the kept result
pub record ServesAgain (shop : Shop) (p : Purchase) (order : List ℕ) (m : Message) : Type 0 where
  pub sale : Sale
  pub known : sale_in shop.items p ≡ Some sale
  pub answers : (ordered shop p sale order sale.progress ≡ Ok (record { keep = None; to = to.Server; message = m }))
      ⊎ ((part : List ℕ) × (ordered shop p sale order sale.progress ≡ Ok (passes_again p part)))

-- what this merchant endorsed is served again where it started again with what was kept behind these acts and with the shelf and the offers of any other
abbrev pub ServesAfresh : Shop → List Act → Purchase → List ℕ → Message → Type 0
ServesAfresh shop acts p order m = (other fresh : Shop) → AreItems (outset shop) acts
    → restarted (new_shop shop.stall other.products other.offers) 0 (kept_bytes (behind (outset shop) acts).shop) ≡ Ok fresh → ServesAgain fresh p order m

-- an endorsement that an act sent is sent again with the same bytes for the same order, behind whatever acts came before it and came later, and so by a merchant
-- that started again with what was kept then, with whatever shelf and offers
abbrev pub EndorsesAgain : Type 0
EndorsesAgain = (shop : Shop) (before later : List Act) (a : Act) (answer : Answer) (merchant : PartyId) (sealed : List ℕ) → IsKept shop
    → act_row (behind (outset shop) before).shop a ≡ Ok answer → answer.message ≡ message.Endorsed merchant sealed
    → (p : Purchase) × ((epoid : Epoid) × ((order : List ℕ) × (answer.message ≡ endorsed_message shop.stall epoid order) × ServesAgain (behind (outset shop) (before ++ a ∷ later)).shop p order answer.message
    × ServesAfresh shop (before ++ a ∷ later) p order answer.message))

-- a refusal, of the consumer or of the house, is ignored, and so it ends
abbrev pub RefusalEnds : Type 0
RefusalEnds = (shop : Shop) (f : Frame) (moment : ℕ) → f.kind ≡ REFUSED_REPLY → (awaited (act_row shop (Hears f moment)) ≡ None) × (awaited (act_row shop (Told f)) ≡ None)

-- the most frames that are read of one consumer's link
abbrev pub LimitIs : Type 0
LimitIs = MOST_FRAMES ≡ 10000
