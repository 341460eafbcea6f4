-- What a consumer is seen as: its wallet, and what its kept items and the places that it was told say of each purchase.
use Rattle.std.specs.Prelude.{ℕ, List, [], ◌∷◌, ◌++◌, map, set, position, slice_get, nat_eq, is_some, if◌then◌else◌, Option, Some, None}
pub use Rattle.nb_units.specs.Epoid.{epoid_bytes}
use Rattle.std.specs.Cmp.Lexicographic.{pointwise}
use Rattle.std.specs.Map.{lookup}
use Rattle.nb_wallet.specs.Stages.{stage_ended, wanted_from, with_head, ordered_from, raised_from}
use Rattle.nb_wallet.specs.declared.wallet.Wallet.{Wallet}
use Rattle.nb_wallet.specs.declared.item.Item.{Item}
use Rattle.nb_wallet.specs.declared.item.Item.TheVariants as item
use Rattle.nb_wallet.specs.declared.purchase.Stage.TheVariants as stage
use Rattle.nb_wallet.specs.Purchases.{Purchase}
pub use Rattle.nb_wallet.specs.Purchases.{fresh}

-- what a consumer is seen as: its wallet, the purchases that it knows, and which was ordered with which identifier
pub record Buyer : Type 0 where
  pub wallet : Wallet
  -- in the order in which they were started
  pub purchases : List Purchase
  -- for the identifier of each order the number of the purchase that was ordered with it first
  pub orders : List (List ℕ × ℕ)

-- a consumer that has kept nothing
abbrev pub new_buyer : Wallet → Buyer
new_buyer w = record { wallet = w; purchases = []; orders = [] }

-- ---- look-ups

-- the number of a purchase
abbrev pub number_of : Purchase → ℕ
number_of p = p.start.transaction

-- where the first purchase of this number stands
abbrev pub place_of : List Purchase → ℕ → Option ℕ
place_of purchases transaction = position (nat_eq transaction) (map number_of purchases)

-- the purchase at a place, if there is one
abbrev pub purchase_at : List Purchase → Option ℕ → Option Purchase
purchase_at purchases (Some i) = slice_get purchases i
purchase_at purchases None = None

-- the purchase of this number
abbrev pub purchase_of : Buyer → ℕ → Option Purchase
purchase_of b transaction = purchase_at b.purchases (place_of b.purchases transaction)

-- the number of the purchase that was ordered first with this identifier
abbrev pub ordered_with : List (List ℕ × ℕ) → List ℕ → Option ℕ
ordered_with orders epoid = lookup (pointwise nat_eq epoid) orders

-- ---- how an item changes what is known

-- what is known of its purchase behind an item
abbrev pub behind_item : Item → Purchase → Purchase
behind_item (item.Granted transaction pass) p = record p { stage = stage.Asked pass }
behind_item (item.Wanted transaction price) p = record p { stage = wanted_from p.stage price }
behind_item (item.Part head part) p = record p { stage = with_head p.stage (Some head); held = p.held ++ part }
behind_item (item.Forgotten transaction) p = record p { stage = with_head p.stage None; held = [] }
behind_item (item.Ordered transaction order part) p = record p { stage = ordered_from p.stage order; held = p.held ++ part }
behind_item (item.Ended transaction receipt) p = record p { stage = stage_ended receipt.receipt p.held }
behind_item (item.Started start) p = p

-- the purchases, of which that at a place has changed, where it is there
abbrev pub changed_with : List Purchase → ℕ → (Purchase → Purchase) → Option Purchase → List Purchase
changed_with purchases i change (Some p) = set purchases i (change p)
changed_with purchases i change None = purchases

-- the purchases, of which that at a place has changed, where there is a place
abbrev pub changed_at : List Purchase → Option ℕ → (Purchase → Purchase) → List Purchase
changed_at purchases (Some i) change = changed_with purchases i change (slice_get purchases i)
changed_at purchases None change = purchases

-- the purchases, of which that of this number has changed
abbrev pub changed : List Purchase → ℕ → (Purchase → Purchase) → List Purchase
changed purchases transaction change = changed_at purchases (place_of purchases transaction) change

-- the number of an item's purchase
abbrev pub number_in : Item → ℕ
number_in (item.Started start) = start.transaction
number_in (item.Granted transaction pass) = transaction
number_in (item.Wanted transaction price) = transaction
number_in (item.Ordered transaction order part) = transaction
number_in (item.Ended transaction receipt) = transaction
number_in (item.Part head part) = head.transaction
number_in (item.Forgotten transaction) = transaction

-- an identifier that has no purchase gets this one
abbrev pub noted : List (List ℕ × ℕ) → List ℕ → ℕ → List (List ℕ × ℕ)
noted orders epoid transaction = if is_some (ordered_with orders epoid) then orders else orders ++ (epoid, transaction) ∷ []

-- what is known behind an item
abbrev pub remembered : Buyer → Item → Buyer
remembered b (item.Started start) = record b { purchases = b.purchases ++ fresh start ∷ [] }
remembered b (item.Ordered transaction order part) = record b {
  purchases = changed b.purchases transaction (behind_item (item.Ordered transaction order part));
  orders = noted b.orders (epoid_bytes order.epoid) transaction;
}
remembered b other = record b { purchases = changed b.purchases (number_in other) (behind_item other) }

-- ---- the greatest place

-- a purchase that was told this place by a status without a receipt
abbrev pub raised : ℕ → Purchase → Purchase
raised place p = record p { stage = raised_from p.stage place }
