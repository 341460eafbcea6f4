-- What kept items say of a purchase, and under which identifiers goods were sealed.
use Rattle.std.specs.Prelude.{ℕ, ◌+◌, ◌==◌, ◌&&◌, Bool, List, [], ◌∷◌, length, Option, Some, None, if◌then◌else◌}
use Rattle.std.specs.declared.cmp.Ordering.{Ordering}
use Rattle.std.specs.Ordering.{nat_cmp, ordering_then}
use Rattle.nb_units.specs.Epoid.{is_same_epoid}
use Rattle.nb_units.specs.declared.epoid.Epoid.{Epoid}
use Rattle.nb_stall.specs.declared.purchase.Purchase.{Purchase}
use Rattle.nb_stall.specs.declared.delivery.Delivery.{Delivery}
use Rattle.nb_stall.specs.declared.item.Item.{Item}
use Rattle.nb_stall.specs.declared.item.Item.TheVariants as item
use Rattle.nb_stall.specs.declared.sale.Stage.{Stage}
use Rattle.nb_stall.specs.declared.sale.Stage.TheVariants as stage
use Rattle.nb_stall.specs.declared.sale.Progress.{Progress}
use Rattle.nb_stall.specs.declared.sale.Progress.TheVariants as progress
use Rattle.nb_stall.specs.declared.sale.Sale.{Sale}
use Rattle.nb_stall.specs.Reading.{purchase_of}

-- two names are of one purchase
abbrev pub is_same : Purchase → Purchase → Bool
is_same p q = p.consumer.0 == q.consumer.0 && p.transaction == q.transaction

-- the order of purchases: by the consumer, and then by the number
abbrev pub purchase_cmp : Purchase → Purchase → Ordering
purchase_cmp p q = ordering_then (nat_cmp p.consumer.0 q.consumer.0) (nat_cmp p.transaction q.transaction)

-- ---- one purchase

-- how far a purchase has come with an item more
abbrev pub progressed : Progress → Item → Progress
progressed progress.Quoted (item.Delivered p epoid checksum) = progress.Delivered epoid
progressed (progress.Delivered epoid) (item.Endorsed p order) = progress.Endorsed epoid order
progressed (progress.Endorsed epoid order) (item.Settled p part) = progress.Settled epoid order part
progressed before other = before

-- what is known of a purchase with an item of it more: where nothing was known a told price alone is noted
abbrev pub moved : Option Sale → Item → Option Sale
moved (Some sale) x = Some (record sale { progress = progressed sale.progress x })
moved None (item.Quoted p product price request) = Some (record { product = product; price = price; request = request; progress = progress.Quoted })
moved None other = None

-- the same, where the item may be of another purchase
abbrev pub told : Purchase → Option Sale → Item → Option Sale
told p sale x = if is_same (purchase_of x) p then moved sale x else sale

-- what is known of it behind items more
abbrev pub sale_from : Purchase → Option Sale → List Item → Option Sale
sale_from p sale [] = sale
sale_from p sale (x ∷ items) = sale_from p (told p sale x) items

-- what is known of it
abbrev pub sale_in : List Item → Purchase → Option Sale
sale_in items p = sale_from p None items

-- how far it has come, and the identifier that its goods were sealed for
abbrev pub stage_of : Progress → Stage
stage_of progress.Quoted = stage.Quoted
stage_of (progress.Delivered epoid) = stage.Delivered
stage_of (progress.Endorsed epoid order) = stage.Endorsed
stage_of (progress.Settled epoid order part) = stage.Settled

-- the identifier that the goods of a purchase were sealed for, if they were
abbrev pub epoid_in : Progress → Option Epoid
epoid_in progress.Quoted = None
epoid_in (progress.Delivered epoid) = Some epoid
epoid_in (progress.Endorsed epoid order) = Some epoid
epoid_in (progress.Settled epoid order part) = Some epoid

-- ---- identifiers

-- the goods that were sealed, in order
abbrev pub deliveries_in : List Item → List Delivery
deliveries_in [] = []
deliveries_in (item.Delivered p epoid checksum ∷ items) = record { purchase = p; epoid = epoid } ∷ deliveries_in items
deliveries_in (item.Quoted p product price request ∷ items) = deliveries_in items
deliveries_in (item.Endorsed p order ∷ items) = deliveries_in items
deliveries_in (item.Settled p part ∷ items) = deliveries_in items

-- the purchase whose goods were sealed under an identifier
abbrev pub sold_as : List Delivery → Epoid → Option Purchase
sold_as [] epoid = None
sold_as (d ∷ deliveries) epoid = if is_same_epoid d.epoid epoid then Some d.purchase else sold_as deliveries epoid

-- the serial number of the goods that are sealed next. The first is 1
abbrev pub next_serial : List Item → ℕ
next_serial items = length (deliveries_in items) + 1
