-- The goods that were sealed, by their serial numbers.
use Rattle.std.proofs.Common.{◌≡◌, ℕ, zero, suc, ◌+◌, true, ◌==◌, ◌&&◌, List, [], ◌∷◌, ◌++◌, length, Option, Some, None, refl, ap, subst, arith, length-append}
use Rattle.std.specs.Prelude.{slice_get, nat_le}
use Rattle.nb_goods.specs.Divided.{Divided}
use Rattle.nb_goods.specs.declared.limits.TheConstants.{MAX_GOODS}
use Rattle.std.proofs.lemmas.Bool.{eqb-true, false≢true}
use Rattle.std.specs.List.{AllByRecursion}
use Rattle.nb_units.specs.declared.epoid.Epoid.{Epoid}
use Rattle.nb_units.specs.declared.ids.PartyId.{PartyId}
use Rattle.nb_stall.specs.declared.delivery.Delivery.{Delivery}
use Rattle.nb_stall.specs.declared.purchase.Purchase.{Purchase}
use Rattle.nb_stall.specs.declared.item.Item.{Item}
use Rattle.nb_stall.specs.declared.item.Item.TheVariants as item
use Rattle.nb_stall.specs.declared.sale.Progress.{Progress}
use Rattle.nb_stall.specs.declared.sale.Progress.TheVariants as progress
use Rattle.nb_stall.specs.declared.sale.Sale.{Sale}
use Rattle.nb_stall.specs.Sales.{sale_in, deliveries_in, next_serial}
use Rattle.nb_merchant.specs.Laws.{SerialsFollow, IdentifiersDiffer}
use Rattle.nb_merchant.specs.Shop.{Shop, unkept, goods_in, with_item}
use Rattle.nb_merchant.specs.Keeping.{delivery_follows, of_sale, follows, all_follow}
use Rattle.nb_stall.specs.Ledger.{serials_from}
use Rattle.nb_merchant.specs.Noting.{SealsAs, SealsNext}
use Rattle.nb_stall.proofs.Serials.{both_true}
use Rattle.nb_merchant.proofs.Keeping.{deliveries_more}

-- ---- what was kept

-- the next serial number behind an item that seals no goods, and behind one that does
as_many : (start : Shop) (x : Item) → deliveries_in (x ∷ []) ≡ [] → next_serial (start.items ++ x ∷ []) ≡ next_serial start.items
as_many start x none = omega (arith, ap length (deliveries_more start.items x), length-append (deliveries_in start.items) (deliveries_in (x ∷ [])), ap length none)

one_more : (start : Shop) (x : Item) → length (deliveries_in (x ∷ [])) ≡ 1 → next_serial (start.items ++ x ∷ []) ≡ next_serial start.items + 1
one_more start x one = omega (arith, ap length (deliveries_more start.items x), length-append (deliveries_in start.items) (deliveries_in (x ∷ [])), one)

serial_next : (start : Shop) (order : Epoid) (checksum : List ℕ) (o : Option Sale)
    → of_sale (λ sale. delivery_follows start.stall (goods_in start.products sale.product) (next_serial start.items) order checksum sale.progress) o ≡ true
    → (order.serial ≡ next_serial start.items) × (order.merchant ≡ start.stall.id)
serial_next start order checksum None is = absurd (false≢true is)
serial_next start order checksum (Some sale) is = by sale.progress is
  where
    by : (before : Progress) → delivery_follows start.stall (goods_in start.products sale.product) (next_serial start.items) order checksum before ≡ true
        → (order.serial ≡ next_serial start.items) × (order.merchant ≡ start.stall.id)
    by progress.Quoted is =
        let fits = nat_le (length (goods_in start.products sale.product)) MAX_GOODS in
        let front = both_true (order.merchant.0 == start.stall.id.0 && order.serial == next_serial start.items && fits) _ is in
        let second = both_true (order.merchant.0 == start.stall.id.0 && order.serial == next_serial start.items) fits front.0 in
        let last = both_true (order.merchant.0 == start.stall.id.0) (order.serial == next_serial start.items) second.0 in
        (eqb-true order.serial (next_serial start.items) last.1, ap (λ (n : ℕ). let p : PartyId = record { 0 = n } in p) (eqb-true order.merchant.0 start.stall.id.0 last.0))
    by (progress.Delivered e) is = absurd (false≢true is)
    by (progress.Endorsed e o) is = absurd (false≢true is)
    by (progress.Settled e o r) is = absurd (false≢true is)

-- the goods that are sealed by items that may follow
pub serials_kept : (start : Shop) (items : List Item) → all_follow start items ≡ true → serials_from (next_serial start.items) (deliveries_in items)
serials_kept start [] all = tt
serials_kept start (item.Quoted p product price request ∷ items) all =
    let x = item.Quoted p product price request in
    subst (λ (n : ℕ). serials_from n (deliveries_in items)) (as_many start x refl) (serials_kept (with_item start x) items (both_true (follows start x) (all_follow (with_item start x) items) all).1)
serials_kept start (item.Delivered p order checksum ∷ items) all =
    let x = item.Delivered p order checksum in
    let parts = both_true (follows start x) (all_follow (with_item start x) items) all in
    ((serial_next start order checksum (sale_in start.items p) parts.0).0, subst (λ (n : ℕ). serials_from n (deliveries_in items)) (one_more start x refl) (serials_kept (with_item start x) items parts.1))
serials_kept start (item.Endorsed p order ∷ items) all =
    let x = item.Endorsed p order in
    subst (λ (n : ℕ). serials_from n (deliveries_in items)) (as_many start x refl) (serials_kept (with_item start x) items (both_true (follows start x) (all_follow (with_item start x) items) all).1)
serials_kept start (item.Settled p part ∷ items) all =
    let x = item.Settled p part in
    subst (λ (n : ℕ). serials_from n (deliveries_in items)) (as_many start x refl) (serials_kept (with_item start x) items (both_true (follows start x) (all_follow (with_item start x) items) all).1)

-- what the parts of goods are made from that may be sealed next
pub seals_next : (shop : Shop) (p : Purchase) (order : Epoid) (checksum : List ℕ) (sale : Sale) (goods : List ℕ) (next : ℕ) (r : Option Divided) → sale_in shop.items p ≡ Some sale
    → goods ≡ goods_in shop.products sale.product → next ≡ next_serial shop.items → SealsAs shop.stall goods order (delivery_follows shop.stall goods next order checksum sale.progress) r
    → SealsNext shop p order checksum r
seals_next shop p order checksum sale goods next (Some parts) there are is seals = (rw (there, ← are, ← is) seals.0, ap Some (rw (there, ← are) seals.1))
seals_next shop p order checksum sale goods next None there are is seals = rw (there, ← are, ← is) seals

-- ---- the law

abbrev AreOf : PartyId → List Delivery → Type 0
AreOf id deliveries = AllByRecursion (λ (d : Delivery). d.epoid.merchant ≡ id) deliveries

-- the identifiers of goods that are sealed by items that may follow are the merchant's
merchants_kept : (start : Shop) (items : List Item) → all_follow start items ≡ true → AreOf start.stall.id (deliveries_in items)
merchants_kept start [] all = tt
merchants_kept start (item.Quoted p product price request ∷ items) all =
    let x = item.Quoted p product price request in
    merchants_kept (with_item start x) items (both_true (follows start x) (all_follow (with_item start x) items) all).1
merchants_kept start (item.Delivered p order checksum ∷ items) all =
    let x = item.Delivered p order checksum in
    let parts = both_true (follows start x) (all_follow (with_item start x) items) all in
    ((serial_next start order checksum (sale_in start.items p) parts.0).1, merchants_kept (with_item start x) items parts.1)
merchants_kept start (item.Endorsed p order ∷ items) all =
    let x = item.Endorsed p order in
    merchants_kept (with_item start x) items (both_true (follows start x) (all_follow (with_item start x) items) all).1
merchants_kept start (item.Settled p part ∷ items) all =
    let x = item.Settled p part in
    merchants_kept (with_item start x) items (both_true (follows start x) (all_follow (with_item start x) items) all).1

at_place : (id : PartyId) (n : ℕ) (ds : List Delivery) → serials_from n ds → AreOf id ds → (i : ℕ) (d : Delivery) → slice_get ds i ≡ Some d → (d.epoid.serial ≡ i + n) × (d.epoid.merchant ≡ id)
at_place id n [] follow of_id i d there = absurd cc
at_place id n (e ∷ ds) follow of_id zero d there =
    let same : e ≡ d = cc in
    subst (λ (x : Delivery). (x.epoid.serial ≡ 0 + n) × (x.epoid.merchant ≡ id)) same (omega (arith, follow.0), of_id.0)
at_place id n (e ∷ ds) follow of_id (suc i) d there =
    let rest = at_place id (n + 1) ds follow.1 of_id.1 i d there in
    (omega (arith, rest.0), rest.1)

pub serials_follow : SerialsFollow
serials_follow shop kept i d there =
    at_place shop.stall.id 1 (deliveries_in shop.items) (serials_kept (unkept shop) shop.items kept.follow) (merchants_kept (unkept shop) shop.items kept.follow) i d there

pub identifiers_differ : IdentifiersDiffer
identifiers_differ shop kept i j d e first second same =
    omega (arith, (serials_follow shop kept i d first).0, (serials_follow shop kept j e second).0, ap (λ (epoid : Epoid). epoid.serial) same)
