-- For the contracts of private functions alone: what is held of a purchase beside its kept items.
use Rattle.std.specs.Prelude.{◌≡◌, ℕ, ◌≤◌, Bool, true, false, List, [], length, Option, Some, None, option_map, IfSome}
use Rattle.nb_units.specs.declared.epoid.Epoid.{Epoid}
use Rattle.nb_goods.specs.Divided.{Divided}
use Rattle.nb_goods.specs.Parts.{parts_of}
use Rattle.nb_price.specs.Products.{Product}
use Rattle.nb_merchant.specs.declared.answer.Planned.{Planned}
use Rattle.nb_stall.specs.declared.delivery.Delivery.{Delivery}
use Rattle.nb_stall.specs.declared.limits.TheConstants.{MAX_PART}
use Rattle.nb_stall.specs.declared.stall.Stall.{Stall}
use Rattle.nb_stall.specs.declared.purchase.Purchase.{Purchase}
use Rattle.nb_stall.specs.declared.item.Item.{Item}
use Rattle.nb_stall.specs.declared.item.Item.TheVariants as item
use Rattle.nb_stall.specs.declared.sale.Sale.{Sale}
use Rattle.nb_stall.specs.declared.sale.Held.{Held}
use Rattle.nb_stall.specs.Reading.{purchase_of}
use Rattle.nb_stall.specs.Sales.{epoid_in, sale_in, deliveries_in}
use Rattle.nb_merchant.specs.Shop.{Shop, goods_in}
use Rattle.nb_stall.specs.Messages.{key_of}
use Rattle.nb_merchant.specs.Keeping.{IsKept, follows}

-- what the parts of a sale's goods are made from, once they were sealed
abbrev pub parts_for : Stall → List Product → ℕ → Option Epoid → Option Divided
parts_for stall products product None = None
parts_for stall products product (Some epoid) = Some (parts_of (key_of stall epoid.serial) (goods_in products product))

-- what is held of a sale
abbrev pub held_of : Stall → List Product → Sale → Held
held_of stall products sale = record { sale = sale; parts = parts_for stall products sale.product (epoid_in sale.progress) }

-- the goods of what was sold
abbrev pub goods_held : List Product → Option Sale → List ℕ
goods_held products None = []
goods_held products (Some sale) = goods_in products sale.product

-- for an item that is kept next: what the parts are made from comes with goods that were sealed, and with nothing else; a receipt is not too long
abbrev pub PartsOf : Stall → List ℕ → Item → Option Divided → Type 0
PartsOf stall goods (item.Delivered p epoid checksum) parts = parts ≡ Some (parts_of (key_of stall epoid.serial) goods)
PartsOf stall goods (item.Settled p part) parts = (parts ≡ None) × (length part ≤ MAX_PART)
PartsOf stall goods other parts = parts ≡ None

-- so it is of an item that is kept next, behind what is known
abbrev pub HasParts : Shop → Item → Option Divided → Type 0
HasParts shop x parts = PartsOf shop.stall (goods_held shop.products (sale_in shop.items (purchase_of x))) x parts

-- an item that seals no goods
abbrev pub IsNoDelivery : Item → Type 0
IsNoDelivery (item.Delivered p epoid checksum) = ⊥
IsNoDelivery other = Unit {0}

-- a test holds, and these are what the parts of the goods are made from; or it does not
abbrev pub SealsAs : Stall → List ℕ → Epoid → Bool → Option Divided → Type 0
SealsAs stall goods epoid test (Some parts) = (test ≡ true) × (parts ≡ parts_of (key_of stall epoid.serial) goods)
SealsAs stall goods epoid test None = test ≡ false

-- the goods may be sealed next, and these are what their parts are made from; or they may not
abbrev pub SealsNext : Shop → Purchase → Epoid → List ℕ → Option Divided → Type 0
SealsNext shop p epoid checksum (Some parts) = (follows shop (item.Delivered p epoid checksum) ≡ true) × HasParts shop (item.Delivered p epoid checksum) (Some parts)
SealsNext shop p epoid checksum None = follows shop (item.Delivered p epoid checksum) ≡ false

-- the same of what a row keeps
abbrev pub PlansParts : Shop → Planned → Type 0
PlansParts shop planned = IfSome planned.answer.keep (λ x. HasParts shop x planned.parts)

-- of the row that seals goods: the item is of this purchase
abbrev pub SealsFor : Stall → List ℕ → Option Divided → Purchase → Item → Type 0
SealsFor stall goods parts p x = (purchase_of x ≡ p) × PartsOf stall goods x parts

-- of a row that seals no goods
abbrev pub IsPlain : Item → Option Divided → Type 0
IsPlain (item.Delivered p epoid checksum) parts = ⊥
IsPlain (item.Settled p part) parts = (parts ≡ None) × (length part ≤ MAX_PART)
IsPlain other parts = parts ≡ None

-- a row that seals no goods plans nothing
abbrev pub PlansPlain : Planned → Type 0
PlansPlain planned = IfSome planned.answer.keep (λ x. IsPlain x planned.parts)

-- beside the kept items: what is held of each purchase is what they say of it, and the goods that were sealed are theirs
pub record Holds (shop : Shop) (held : Purchase → Option Held) (given : List Delivery) : Type 0 where
  pub kept : IsKept shop
  pub sales : (p : Purchase) → held p ≡ option_map (held_of shop.stall shop.products) (sale_in shop.items p)
  pub deliveries : given ≡ deliveries_in shop.items
