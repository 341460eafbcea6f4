-- Which items may stand one behind the other in a stall's journal: what a restart asks of each, and what every merchant kept.
use Rattle.std.specs.Prelude.{◌≡◌, ℕ, ◌+◌, ◌==◌, ◌&&◌, nat_le, Bool, true, false, is_some, is_none, List, [], ◌∷◌, length, Option, Some, None, Result, Ok, Err, if◌then◌else◌}
use Rattle.std.specs.Result.{is_ok}
use Rattle.std.specs.Str.{bytes_eq}
use Rattle.std.specs.List.{AllByRecursion}
use Rattle.sha2.specs.Sha256.{sha256}
use Rattle.nb_units.specs.declared.epoid.Epoid.{Epoid}
use Rattle.nb_goods.specs.declared.limits.TheConstants.{MAX_GOODS}
use Rattle.nb_goods.specs.Goods.{sealed_goods}
use Rattle.nb_price.specs.Products.{product_in}
use Rattle.nb_stall.specs.declared.purchase.Purchase.{Purchase}
use Rattle.nb_stall.specs.declared.stall.Stall.{Stall}
use Rattle.nb_stall.specs.declared.item.Item.{Item}
use Rattle.nb_stall.specs.declared.item.Item.TheVariants as item
use Rattle.nb_stall.specs.declared.sale.Progress.{Progress}
use Rattle.nb_stall.specs.declared.sale.Progress.TheVariants as progress
use Rattle.nb_stall.specs.declared.sale.Sale.{Sale}
use Rattle.nb_stall.specs.Spelling.{IsItem}
use Rattle.nb_stall.specs.Reading.{item_of}
use Rattle.nb_stall.specs.Sales.{sale_in, next_serial}
use Rattle.nb_merchant.specs.Shop.{Shop, unkept, with_item, goods_in, sealed_for}
use Rattle.nb_stall.specs.Messages.{key_of}
use Rattle.nb_merchant.specs.Table.{order_taken}

-- goods are sealed under the next serial number of this merchant, and the checksum is that of the goods under the key of that number
abbrev pub is_sealed_next : Stall → List ℕ → ℕ → Epoid → List ℕ → Bool
is_sealed_next stall goods next epoid checksum =
    epoid.merchant.0 == stall.id.0 && epoid.serial == next && nat_le (length goods) MAX_GOODS && bytes_eq checksum (sha256 (sealed_goods (key_of stall epoid.serial) goods))

-- they are so for a purchase that was quoted, and are those of the catalogue
abbrev pub delivery_follows : Stall → List ℕ → ℕ → Epoid → List ℕ → Progress → Bool
delivery_follows stall goods next epoid checksum progress.Quoted = is_sealed_next stall goods next epoid checksum
delivery_follows stall goods next epoid checksum other = false

-- an order is endorsed whose goods were sealed, and which fits the sale
abbrev pub order_follows : Shop → Purchase → List ℕ → Sale → Progress → Bool
order_follows shop p order sale (progress.Delivered epoid) =
    is_ok (order_taken shop.stall p sale epoid (sha256 (sealed_for shop.stall shop.products epoid.serial sale.product)) order)
order_follows shop p order sale other = false

-- a result is of an order that was endorsed
abbrev pub result_follows : Progress → Bool
result_follows (progress.Endorsed epoid order) = true
result_follows other = false

-- what is asked of a sale that is there
abbrev pub of_sale : (Sale → Bool) → Option Sale → Bool
of_sale test None = false
of_sale test (Some sale) = test sale

-- the item may stand next: a price is told of a purchase that is new and of a product of the catalogue
abbrev pub follows : Shop → Item → Bool
follows shop (item.Quoted p product price request) = is_none (sale_in shop.items p) && is_some (product_in shop.products product)
follows shop (item.Delivered p epoid checksum) = of_sale (λ sale. delivery_follows shop.stall (goods_in shop.products sale.product) (next_serial shop.items) epoid checksum sale.progress) (sale_in shop.items p)
follows shop (item.Endorsed p order) = of_sale (λ sale. order_follows shop p order sale sale.progress) (sale_in shop.items p)
follows shop (item.Settled p part) = of_sale (λ sale. result_follows sale.progress) (sale_in shop.items p)

-- each of the items may stand behind those before it
abbrev pub all_follow : Shop → List Item → Bool
all_follow shop [] = true
all_follow shop (x ∷ items) = follows shop x && all_follow (with_item shop x) items

-- each item of a merchant may stand where it does
abbrev pub AllFollow : Shop → Type 0
AllFollow shop = all_follow (unkept shop) shop.items ≡ true

-- what a merchant kept is so, and each item within its limits
pub record IsKept (shop : Shop) : Type 0 where
  pub all : AllByRecursion IsItem shop.items
  pub follow : AllFollow shop

-- ---- a restart

-- the merchant with the item that the bytes spell, where it may stand next
abbrev pub taken_up : Shop → Result Item ℕ → Option Shop
taken_up shop (Ok x) = if follows shop x then Some (with_item shop x) else None
taken_up shop (Err place) = None

-- what comes of the rest where there was such an item, or its number
abbrev pub or_bad : ℕ → (Shop → Result Shop ℕ) → Option Shop → Result Shop ℕ
or_bad i rest None = Err i
or_bad i rest (Some shop) = rest shop

-- the merchant with all the items, or the number of the first that is none or may not stand where it does
abbrev pub restarted : Shop → ℕ → List (List ℕ) → Result Shop ℕ
restarted shop i [] = Ok shop
restarted shop i (bytes ∷ more) = or_bad i (λ next. restarted next (i + 1) more) (taken_up shop (item_of bytes))
