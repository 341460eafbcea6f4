-- What was kept, with an item more.
use Rattle.std.proofs.Common.{◌≡◌, ℕ, Bool, true, false, ◌&&◌, List, [], ◌∷◌, ◌++◌, Option, Some, None, option_map, Result, Ok, Err, IfOk, refl, sym, ap, subst, ◌∙◌, append_assoc, append-nil}
use Rattle.std.proofs.lemmas.Bool.{false≢true}
use Rattle.std.specs.List.{AllByRecursion}
use Rattle.std.specs.Prelude.{is_some, is_none, IfSome}
use Rattle.std.specs.Option.{option_copied}
use Rattle.std.specs.Borrow.{Bor}
use Rattle.nb_goods.specs.Divided.{Divided}
use Rattle.nb_units.specs.declared.epoid.Epoid.{Epoid}
use Rattle.nb_units.specs.declared.ids.Price.{Price}
use Rattle.nb_price.specs.Products.{Product, product_in}
use Rattle.nb_stall.specs.declared.delivery.Delivery.{Delivery}
use Rattle.nb_stall.specs.declared.purchase.Purchase.{Purchase}
use Rattle.nb_stall.specs.declared.stall.Stall.{Stall}
use Rattle.nb_stall.specs.declared.item.Item.{Item}
use Rattle.nb_stall.specs.declared.item.Item.TheVariants as item
use Rattle.nb_stall.specs.declared.sale.Progress.{Progress}
use Rattle.nb_stall.specs.declared.sale.Progress.TheVariants as progress
use Rattle.nb_stall.specs.declared.sale.Sale.{Sale}
use Rattle.nb_stall.specs.declared.sale.Held.{Held}
use Rattle.nb_stall.specs.Spelling.{IsItem}
use Rattle.nb_stall.specs.Reading.{purchase_of}
use Rattle.nb_stall.specs.Sales.{is_same, progressed, moved, told, sale_from, sale_in, deliveries_in, next_serial}
use Rattle.nb_goods.specs.Parts.{parts_of}
use Rattle.nb_merchant.specs.declared.answer.Planned.{Planned}
use Rattle.nb_merchant.specs.declared.answer.Halt.{Halt}
use Rattle.nb_merchant.specs.Shop.{Shop, goods_in, unkept, with_item}
use Rattle.nb_stall.specs.Messages.{key_of}
use Rattle.nb_merchant.specs.Keeping.{delivery_follows, of_sale, follows, all_follow, IsKept}
use Rattle.nb_stall.specs.Ledger.{noted, noted_at}
use Rattle.nb_merchant.specs.Noting.{parts_for, held_of, goods_held, PartsOf, HasParts, PlansParts, SealsFor, IsPlain, PlansPlain, Holds}
use Rattle.nb_stall.proofs.Noting.{one_purchase}
use Rattle.nb_stall.proofs.Serials.{both_true}

-- ---- searches of a list with an item more

pub sale_from_more : (p : Purchase) (sale : Option Sale) (items : List Item) (x : Item) → sale_from p sale (items ++ x ∷ []) ≡ told p (sale_from p sale items) x
sale_from_more p sale [] x = refl
sale_from_more p sale (y ∷ items) x = sale_from_more p (told p sale y) items x

pub deliveries_more : (items : List Item) (x : Item) → deliveries_in (items ++ x ∷ []) ≡ deliveries_in items ++ deliveries_in (x ∷ [])
deliveries_more [] x = refl
deliveries_more (item.Delivered p order checksum ∷ items) x = ap (λ (ds : List Delivery). record { purchase = p; epoid = order } ∷ ds) (deliveries_more items x)
deliveries_more (item.Quoted p product price request ∷ items) x = deliveries_more items x
deliveries_more (item.Endorsed p order ∷ items) x = deliveries_more items x
deliveries_more (item.Settled p part ∷ items) x = deliveries_more items x

-- ---- the rule of a restart

pub follow_more : (start : Shop) (items : List Item) (x : Item) → all_follow start items ≡ true → follows (record start { items = start.items ++ items }) x ≡ true → all_follow start (items ++ x ∷ []) ≡ true
follow_more start [] x all next =
    let here : follows start x ≡ true = subst (λ (xs : List Item). follows (record start { items = xs }) x ≡ true) (append-nil start.items) next in
    rw here refl
follow_more start (y ∷ items) x all next =
    let parts = both_true (follows start y) (all_follow (with_item start y) items) all in
    let there : follows (record start { items = (start.items ++ y ∷ []) ++ items }) x ≡ true = subst (λ (xs : List Item). follows (record start { items = xs }) x ≡ true) (sym (append_assoc start.items (y ∷ []) items)) next in
    rw (parts.0, follow_more (with_item start y) items x parts.1 there) refl

all_more : (items : List Item) (x : Item) → AllByRecursion IsItem items → IsItem x → AllByRecursion IsItem (items ++ x ∷ [])
all_more [] x all is = (is, tt)
all_more (y ∷ items) x all is = (all.0, all_more items x all.1 is)

pub kept_more : (shop : Shop) (x : Item) → IsKept shop → IsItem x → follows shop x ≡ true → IsKept (with_item shop x)
kept_more shop x kept is next = record { all = all_more shop.items x kept.all is; follow = follow_more (unkept shop) shop.items x kept.follow next }

-- ---- what is held

-- of a purchase whose price is told
quoted_fits : (stall : Stall) (products : List Product) (o : Option Sale) (p : Purchase) (product : ℕ) (price : Price) (request : List ℕ) (parts : Option Divided) (known : Bool)
    → (is_none o && known) ≡ true → parts ≡ None
    → noted (option_map (held_of stall products) o) (item.Quoted p product price request) parts ≡ option_map (held_of stall products) (moved o (item.Quoted p product price request))
quoted_fits stall products None p product price request parts known next none = rw none refl
quoted_fits stall products (Some sale) p product price request parts known next none = absurd (false≢true next)

-- of one whose goods are sealed
delivered_fits : (shop : Shop) (goods : List ℕ) (next : ℕ) (product : ℕ) (price : Price) (request : List ℕ) (before : Progress) (p : Purchase) (order : Epoid) (checksum : List ℕ) (parts : Option Divided)
    → (let sale : Sale = record { product = product; price = price; request = request; progress = before } in
    (delivery_follows shop.stall goods next order checksum before ≡ true) → parts ≡ parts_for shop.stall shop.products product (Some order)
    → noted (Some (held_of shop.stall shop.products sale)) (item.Delivered p order checksum) parts ≡ Some (held_of shop.stall shop.products (record sale { progress = progressed before (item.Delivered p order checksum) })))
delivered_fits shop goods number product price request progress.Quoted p order checksum parts next is = rw is refl
delivered_fits shop goods number product price request (progress.Delivered e) p order checksum parts next is = absurd (false≢true next)
delivered_fits shop goods number product price request (progress.Endorsed e o) p order checksum parts next is = absurd (false≢true next)
delivered_fits shop goods number product price request (progress.Settled e o r) p order checksum parts next is = absurd (false≢true next)

-- of one whose order is endorsed, or whose result is told: the goods stay sealed as they are
endorsed_fits : (stall : Stall) (products : List Product) (product : ℕ) (price : Price) (request : List ℕ) (before : Progress) (p : Purchase) (order : List ℕ) (parts : Option Divided)
    → (let sale : Sale = record { product = product; price = price; request = request; progress = before } in
    parts ≡ None → noted (Some (held_of stall products sale)) (item.Endorsed p order) parts ≡ Some (held_of stall products (record sale { progress = progressed before (item.Endorsed p order) })))
endorsed_fits stall products product price request progress.Quoted p order parts none = rw none refl
endorsed_fits stall products product price request (progress.Delivered e) p order parts none = rw none refl
endorsed_fits stall products product price request (progress.Endorsed e o) p order parts none = rw none refl
endorsed_fits stall products product price request (progress.Settled e o r) p order parts none = rw none refl

settled_fits : (stall : Stall) (products : List Product) (product : ℕ) (price : Price) (request : List ℕ) (before : Progress) (p : Purchase) (part : List ℕ) (parts : Option Divided)
    → (let sale : Sale = record { product = product; price = price; request = request; progress = before } in
    parts ≡ None → noted (Some (held_of stall products sale)) (item.Settled p part) parts ≡ Some (held_of stall products (record sale { progress = progressed before (item.Settled p part) })))
settled_fits stall products product price request progress.Quoted p part parts none = rw none refl
settled_fits stall products product price request (progress.Delivered e) p part parts none = rw none refl
settled_fits stall products product price request (progress.Endorsed e o) p part parts none = rw none refl
settled_fits stall products product price request (progress.Settled e o r) p part parts none = rw none refl

-- at its own purchase an item is noted as the items tell it
noted_fits : (shop : Shop) (x : Item) (parts : Option Divided) → follows shop x ≡ true → HasParts shop x parts
    → noted (option_map (held_of shop.stall shop.products) (sale_in shop.items (purchase_of x))) x parts
    ≡ option_map (held_of shop.stall shop.products) (moved (sale_in shop.items (purchase_of x)) x)
noted_fits shop (item.Quoted p product price request) parts next has =
    quoted_fits shop.stall shop.products (sale_in shop.items p) p product price request parts (is_some (product_in shop.products product)) next has
noted_fits shop (item.Delivered p order checksum) parts next has = by (sale_in shop.items p) next has
  where
    by : (o : Option Sale) → of_sale (λ sale. delivery_follows shop.stall (goods_in shop.products sale.product) (next_serial shop.items) order checksum sale.progress) o ≡ true → parts ≡ Some (parts_of (key_of shop.stall order.serial) (goods_held shop.products o))
        → noted (option_map (held_of shop.stall shop.products) o) (item.Delivered p order checksum) parts ≡ option_map (held_of shop.stall shop.products) (moved o (item.Delivered p order checksum))
    by None next has = absurd (false≢true next)
    by (Some sale) next has = delivered_fits shop (goods_in shop.products sale.product) (next_serial shop.items) sale.product sale.price sale.request sale.progress p order checksum parts next has
noted_fits shop (item.Endorsed p order) parts next has = by (sale_in shop.items p)
  where
    by : (o : Option Sale) → noted (option_map (held_of shop.stall shop.products) o) (item.Endorsed p order) parts ≡ option_map (held_of shop.stall shop.products) (moved o (item.Endorsed p order))
    by None = refl
    by (Some sale) = endorsed_fits shop.stall shop.products sale.product sale.price sale.request sale.progress p order parts has
noted_fits shop (item.Settled p part) parts next has = by (sale_in shop.items p)
  where
    by : (o : Option Sale) → noted (option_map (held_of shop.stall shop.products) o) (item.Settled p part) parts ≡ option_map (held_of shop.stall shop.products) (moved o (item.Settled p part))
    by None = refl
    by (Some sale) = settled_fits shop.stall shop.products sale.product sale.price sale.request sale.progress p part parts has.0

-- at every purchase
noted_everywhere : (shop : Shop) (x : Item) (parts : Option Divided) → follows shop x ≡ true → HasParts shop x parts → (q : Purchase)
    → noted_at x parts q (option_map (held_of shop.stall shop.products) (sale_in shop.items q))
    ≡ option_map (held_of shop.stall shop.products) (told q (sale_in shop.items q) x)
noted_everywhere shop x parts next has q = by (is_same (purchase_of x) q) refl
  where
    by : (same : Bool) → is_same (purchase_of x) q ≡ same
        → noted_at x parts q (option_map (held_of shop.stall shop.products) (sale_in shop.items q)) ≡ option_map (held_of shop.stall shop.products) (told q (sale_in shop.items q) x)
    by true e =
        let fits = subst (λ (r : Purchase). noted (option_map (held_of shop.stall shop.products) (sale_in shop.items r)) x parts ≡ option_map (held_of shop.stall shop.products) (moved (sale_in shop.items r) x)) (one_purchase (purchase_of x) q e) (noted_fits shop x parts next has) in
        rw e fits
    by false e = rw e refl

-- all that is held, with an item more
pub holds_more : (shop : Shop) (x : Item) (parts : Option Divided) (old new : Purchase → Option Held) (given more : List Delivery) → Holds shop old given → IsItem x → follows shop x ≡ true → HasParts shop x parts
    → ((q : Purchase) → new q ≡ noted_at x parts q (old q)) → more ≡ given ++ deliveries_in (x ∷ []) → Holds (with_item shop x) new more
holds_more shop x parts old new given more holds is next has at behind = record {
  kept = kept_more shop x holds.kept is next;
  sales = λ q.
      at q ∙ ap (noted_at x parts q) (holds.sales q) ∙ noted_everywhere shop x parts next has q
      ∙ ap (option_map (held_of shop.stall shop.products)) (sym (sale_from_more q None shop.items x));
  deliveries = behind ∙ ap (λ (ds : List Delivery). ds ++ deliveries_in (x ∷ [])) holds.deliveries ∙ sym (deliveries_more shop.items x);
}

-- what a look-up gives is what is held of the sale
pub found_so : (stall : Stall) (products : List Product) (r : Option (Bor Held)) (o : Option Sale) → option_copied r ≡ option_map (held_of stall products) o
    → IfSome r (λ held. held.now ≡ held_of stall products held.now.sale)
found_so stall products None o e = tt
found_so stall products (Some b) None e = absurd cc
found_so stall products (Some b) (Some sale) e = let same : b.now ≡ held_of stall products sale = cc in subst (λ (h : Held). h ≡ held_of stall products h.sale) (sym same) refl

-- ---- what rows plan

plain_item : (shop : Shop) (x : Item) (parts : Option Divided) → IsPlain x parts → HasParts shop x parts
plain_item shop (item.Quoted p product price request) parts is = is
plain_item shop (item.Delivered p order checksum) parts is = absurd is
plain_item shop (item.Endorsed p order) parts is = is
plain_item shop (item.Settled p part) parts is = is

plain_kept : (shop : Shop) (keep : Option Item) (parts : Option Divided) → IfSome keep (λ x. IsPlain x parts) → IfSome keep (λ x. HasParts shop x parts)
plain_kept shop None parts is = tt
plain_kept shop (Some x) parts is = plain_item shop x parts is

-- a row that seals no goods has no parts
pub plain_plans : (shop : Shop) (r : Result Planned Halt) → IfOk r PlansPlain → IfOk r (PlansParts shop)
plain_plans shop (Ok planned) is = plain_kept shop planned.answer.keep planned.parts is
plain_plans shop (Err why) is = tt

-- the row that seals goods has their parts
pub seals_plans : (shop : Shop) (p : Purchase) (sale : Sale) (goods : List ℕ) (r : Result Planned Halt) → sale_in shop.items p ≡ Some sale → goods ≡ goods_in shop.products sale.product
    → IfOk r (λ planned. IfSome planned.answer.keep (SealsFor shop.stall goods planned.parts p)) → IfOk r (PlansParts shop)
seals_plans shop p sale goods (Err why) there are is = tt
seals_plans shop p sale goods (Ok planned) there are is = by planned.answer.keep is
  where
    by : (keep : Option Item) → IfSome keep (SealsFor shop.stall goods planned.parts p) → IfSome keep (λ x. HasParts shop x planned.parts)
    by None is = tt
    by (Some x) is =
        let sold : goods ≡ goods_held shop.products (sale_in shop.items (purchase_of x)) = are ∙ sym (ap (goods_held shop.products) (ap (sale_in shop.items) is.0 ∙ there)) in
        subst (λ (g : List ℕ). PartsOf shop.stall g x planned.parts) sold is.1
