-- What is held of each purchase beside its kept items, and the goods that were sealed, by their serial numbers.
use Rattle.std.specs.Prelude.{◌≡◌, ℕ, ◌+◌, List, [], ◌∷◌, Option, Some, None, if◌then◌else◌}
use Rattle.nb_units.specs.declared.epoid.Epoid.{Epoid}
use Rattle.nb_goods.specs.Divided.{Divided}
use Rattle.nb_stall.specs.declared.delivery.Delivery.{Delivery}
use Rattle.nb_stall.specs.declared.purchase.Purchase.{Purchase}
use Rattle.nb_stall.specs.declared.item.Item.{Item}
use Rattle.nb_stall.specs.declared.item.Item.TheVariants as item
use Rattle.nb_stall.specs.declared.sale.Progress.TheVariants as progress
use Rattle.nb_stall.specs.declared.sale.Held.{Held}
use Rattle.nb_stall.specs.Reading.{purchase_of}
use Rattle.nb_units.specs.Epoid.{is_same_epoid}
use Rattle.nb_stall.specs.Sales.{is_same, progressed}

-- what was held stays where there is nothing new
abbrev pub or_held : Option Divided → Option Divided → Option Divided
or_held (Some new) old = Some new
or_held None old = old

-- what is held of a purchase with an item of it more: where nothing was held a told price alone is noted
abbrev pub noted : Option Held → Item → Option Divided → Option Held
noted (Some held) x parts = Some (record { sale = record held.sale { progress = progressed held.sale.progress x }; parts = or_held parts held.parts })
noted None (item.Quoted p product price request) parts = Some (record { sale = record { product = product; price = price; request = request; progress = progress.Quoted }; parts = parts })
noted None other parts = None

-- the same, where the item may be of another purchase
abbrev pub noted_at : Item → Option Divided → Purchase → Option Held → Option Held
noted_at x parts q old = if is_same (purchase_of x) q then noted old x parts else old

-- the serial numbers of the goods that were sealed are 1, 2 and so on
abbrev pub serials_from : ℕ → List Delivery → Type 0
serials_from n [] = Unit {0}
serials_from n (d ∷ deliveries) = (d.epoid.serial ≡ n) × serials_from (n + 1) deliveries

-- they are, from 1 on
abbrev pub AreSerials : List Delivery → Type 0
AreSerials deliveries = serials_from 1 deliveries

-- for the contracts of private functions alone: the purchase of a delivery that was looked up, where it has the identifier
abbrev pub given_as : Option Delivery → Epoid → Option Purchase
given_as None epoid = None
given_as (Some d) epoid = if is_same_epoid d.epoid epoid then Some d.purchase else None
