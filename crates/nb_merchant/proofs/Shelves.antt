-- What items say behind others, and other shelves under them.
use Rattle.std.proofs.Common.{◌≡◌, ◌≢◌, ◌⊎◌, inl, inr, ℕ, ◌+◌, Bool, true, false, cond, ◌==◌, ◌&&◌, List, [], ◌∷◌, ◌++◌, length, map, Option, Some, None, option_map, Result, Err, refl, sym, ap, subst, ◌∙◌, append_assoc, append-nil, arith}
use Rattle.std.proofs.lemmas.Bool.{false≢true}
use Rattle.std.proofs.lemmas.Slice.Eq.{bytes_eq-Decides}
use Rattle.std.specs.Prelude.{codes, is_some, is_none, nat_le}
use Rattle.std.specs.Str.{bytes_eq}
use Rattle.std.specs.Result.{is_ok}
use Rattle.std.specs.List.{AllByRecursion}
use Rattle.sha2.specs.Sha256.{sha256}
use Rattle.nb_units.specs.declared.epoid.Epoid.{Epoid}
use Rattle.nb_units.specs.declared.ids.Price.{Price}
use Rattle.nb_seal.proofs.Opening.{opens_once}
use Rattle.nb_goods.specs.declared.limits.TheConstants.{MAX_GOODS}
use Rattle.nb_goods.specs.Goods.{sealed_goods}
use Rattle.nb_goods.specs.Collision.{Collision}
use Rattle.nb_price.specs.Products.{Product, product_in}
use Rattle.nb_groups.specs.Offers.{Tariff}
use Rattle.nb_stall.specs.declared.purchase.Purchase.{Purchase}
use Rattle.nb_stall.specs.declared.item.Item.{Item}
use Rattle.nb_stall.specs.declared.item.Item.TheVariants as item
use Rattle.nb_stall.specs.declared.sale.Progress.{Progress}
use Rattle.nb_stall.specs.declared.sale.Progress.TheVariants as progress
use Rattle.nb_stall.specs.declared.sale.Sale.{Sale}
use Rattle.nb_stall.specs.Spelling.{IsItem, item_bytes}
use Rattle.nb_stall.specs.Reading.{item_of, purchase_of}
use Rattle.nb_stall.specs.Sales.{is_same, progressed, moved, told, sale_from, sale_in, stage_of, epoid_in, next_serial}
use Rattle.nb_stall.specs.Messages.{key_of}
use Rattle.nb_merchant.specs.Shop.{Shop, new_shop, unkept, with_item, goods_in, sealed_for}
use Rattle.nb_merchant.specs.Table.{order_taken}
use Rattle.nb_merchant.specs.Keeping.{is_sealed_next, delivery_follows, order_follows, result_follows, of_sale, follows, all_follow, taken_up, or_bad, restarted, IsKept}
use Rattle.nb_merchant.specs.Laws.{stage_in, stage_behind, NoneOf, LastItemTells, Serves, ServesAll, ShelvesMayChange, LostProductIsBad, OtherGoodsAreBad}
use Rattle.nb_stall.proofs.Layouts.{item_reads_back}
use Rattle.nb_stall.proofs.Noting.{one_purchase, same_purchase}
use Rattle.nb_stall.proofs.Serials.{both_true}
use Rattle.nb_merchant.proofs.Keeping.{sale_from_more}

-- ---- items behind others

-- what may stand behind items, where all may
pub front_follows : (start : Shop) (front back : List Item) → all_follow start (front ++ back) ≡ true
    → (all_follow start front ≡ true) × (all_follow (record start { items = start.items ++ front }) back ≡ true)
front_follows start [] back all = (refl, subst (λ (xs : List Item). all_follow (record start { items = xs }) back ≡ true) (sym (append-nil start.items)) all)
front_follows start (x ∷ front) back all =
    let parts = both_true (follows start x) (all_follow (with_item start x) (front ++ back)) all in
    let rest = front_follows (with_item start x) front back parts.1 in
    (rw (parts.0, rest.0) refl, subst (λ (xs : List Item). all_follow (record start { items = xs }) back ≡ true) (append_assoc start.items (x ∷ []) front) rest.1)

-- an item in what was kept may stand behind those before it
item_follows : (shop : Shop) (front back : List Item) (x : Item) → IsKept shop → shop.items ≡ front ++ x ∷ back
    → (all_follow (unkept shop) front ≡ true) × (follows (record shop { items = front }) x ≡ true)
item_follows shop front back x kept is =
    let there = front_follows (unkept shop) front (x ∷ back) (subst (λ (xs : List Item). all_follow (unkept shop) xs ≡ true) is kept.follow) in
    (there.0, (both_true (follows (record shop { items = front }) x) (all_follow (with_item (record shop { items = front }) x) back) there.1).0)

sale_behind : (p : Purchase) (sale : Option Sale) (front back : List Item) → sale_from p sale (front ++ back) ≡ sale_from p (sale_from p sale front) back
sale_behind p sale [] back = refl
sale_behind p sale (x ∷ front) back = sale_behind p (told p sale x) front back

-- ---- the last item of a purchase

other_one : (p q : Purchase) → p ≢ q → is_same p q ≡ false
other_one p q apart = by (is_same p q) refl
  where
    by : (same : Bool) → is_same p q ≡ same → same ≡ false
    by true e = absurd (apart (one_purchase p q e))
    by false e = refl

none_told : (p : Purchase) (sale : Option Sale) (items : List Item) → NoneOf p items → sale_from p sale items ≡ sale
none_told p sale [] none = refl
none_told p sale (x ∷ items) none =
    ap (λ (s : Option Sale). sale_from p s items) (ap (λ (b : Bool). cond b (moved sale x) sale) (other_one (purchase_of x) p none.0)) ∙ none_told p sale items none.1

-- the sale behind an item of it
behind : (items : List Item) (x : Item) → sale_in (items ++ x ∷ []) (purchase_of x) ≡ moved (sale_in items (purchase_of x)) x
behind items x =
    sale_from_more (purchase_of x) None items x ∙ ap (λ (b : Bool). cond b (moved (sale_in items (purchase_of x)) x) (sale_in items (purchase_of x))) (same_purchase (purchase_of x))

stage_now : (shop : Shop) (x : Item) → follows shop x ≡ true → option_map (λ (sale : Sale). stage_of sale.progress) (moved (sale_in shop.items (purchase_of x)) x) ≡ Some (stage_behind x)
stage_now shop (item.Quoted p product price request) may = by (sale_in shop.items p) may
  where
    by : (o : Option Sale) → (is_none o && is_some (product_in shop.products product)) ≡ true
        → option_map (λ (sale : Sale). stage_of sale.progress) (moved o (item.Quoted p product price request)) ≡ Some (stage_behind (item.Quoted p product price request))
    by None may = refl
    by (Some sale) may = absurd (false≢true may)
stage_now shop (item.Delivered p epoid checksum) may = by (sale_in shop.items p) may
  where
    at : (sale : Sale) (before : Progress) → delivery_follows shop.stall (goods_in shop.products sale.product) (next_serial shop.items) epoid checksum before ≡ true
        → stage_of (progressed before (item.Delivered p epoid checksum)) ≡ stage_behind (item.Delivered p epoid checksum)
    at sale progress.Quoted may = refl
    at sale (progress.Delivered e) may = absurd (false≢true may)
    at sale (progress.Endorsed e o) may = absurd (false≢true may)
    at sale (progress.Settled e o r) may = absurd (false≢true may)

    by : (o : Option Sale) → of_sale (λ sale. delivery_follows shop.stall (goods_in shop.products sale.product) (next_serial shop.items) epoid checksum sale.progress) o ≡ true
        → option_map (λ (sale : Sale). stage_of sale.progress) (moved o (item.Delivered p epoid checksum)) ≡ Some (stage_behind (item.Delivered p epoid checksum))
    by None may = absurd (false≢true may)
    by (Some sale) may = ap Some (at sale sale.progress may)
stage_now shop (item.Endorsed p order) may = by (sale_in shop.items p) may
  where
    at : (sale : Sale) (before : Progress) → order_follows shop p order sale before ≡ true → stage_of (progressed before (item.Endorsed p order)) ≡ stage_behind (item.Endorsed p order)
    at sale progress.Quoted may = absurd (false≢true may)
    at sale (progress.Delivered e) may = refl
    at sale (progress.Endorsed e o) may = absurd (false≢true may)
    at sale (progress.Settled e o r) may = absurd (false≢true may)

    by : (o : Option Sale) → of_sale (λ sale. order_follows shop p order sale sale.progress) o ≡ true
        → option_map (λ (sale : Sale). stage_of sale.progress) (moved o (item.Endorsed p order)) ≡ Some (stage_behind (item.Endorsed p order))
    by None may = absurd (false≢true may)
    by (Some sale) may = ap Some (at sale sale.progress may)
stage_now shop (item.Settled p part) may = by (sale_in shop.items p) may
  where
    at : (before : Progress) → result_follows before ≡ true → stage_of (progressed before (item.Settled p part)) ≡ stage_behind (item.Settled p part)
    at progress.Quoted may = absurd (false≢true may)
    at (progress.Delivered e) may = absurd (false≢true may)
    at (progress.Endorsed e o) may = refl
    at (progress.Settled e o r) may = absurd (false≢true may)

    by : (o : Option Sale) → of_sale (λ sale. result_follows sale.progress) o ≡ true
        → option_map (λ (sale : Sale). stage_of sale.progress) (moved o (item.Settled p part)) ≡ Some (stage_behind (item.Settled p part))
    by None may = absurd (false≢true may)
    by (Some sale) may = ap Some (at sale.progress may)

pub last_item_tells : LastItemTells
last_item_tells shop kept = (last, λ p none. ap (option_map (λ (sale : Sale). stage_of sale.progress)) (none_told p None shop.items none))
  where
    last : (front back : List Item) (x : Item) → shop.items ≡ front ++ x ∷ back → NoneOf (purchase_of x) back → stage_in shop.items (purchase_of x) ≡ Some (stage_behind x)
    last front back x is none =
        let p = purchase_of x in
        let cut : shop.items ≡ (front ++ x ∷ []) ++ back = is ∙ sym (append_assoc front (x ∷ []) back) in
        let there : sale_in shop.items p ≡ moved (sale_in front p) x =
        ap (λ (items : List Item). sale_in items p) cut ∙ sale_behind p None (front ++ x ∷ []) back ∙ none_told p (sale_in (front ++ x ∷ []) p) back none ∙ behind front x in
        ap (option_map (λ (sale : Sale). stage_of sale.progress)) there ∙ stage_now (record shop { items = front }) x (item_follows shop front back x kept is).1

-- ---- other shelves

-- a sale stays of its product, and its goods sealed under their identifier
record Stays (before after : Sale) : Type 0 where
  product : after.product ≡ before.product
  epoid : (e : Epoid) → epoid_in before.progress ≡ Some e → epoid_in after.progress ≡ Some e

progress_stays : (before : Progress) (x : Item) (e : Epoid) → epoid_in before ≡ Some e → epoid_in (progressed before x) ≡ Some e
progress_stays progress.Quoted x e is = absurd cc
progress_stays (progress.Delivered d) (item.Quoted p product price request) e is = is
progress_stays (progress.Delivered d) (item.Delivered p epoid checksum) e is = is
progress_stays (progress.Delivered d) (item.Endorsed p order) e is = is
progress_stays (progress.Delivered d) (item.Settled p part) e is = is
progress_stays (progress.Endorsed d kept) (item.Quoted p product price request) e is = is
progress_stays (progress.Endorsed d kept) (item.Delivered p epoid checksum) e is = is
progress_stays (progress.Endorsed d kept) (item.Endorsed p order) e is = is
progress_stays (progress.Endorsed d kept) (item.Settled p part) e is = is
progress_stays (progress.Settled d kept part) x e is = is

told_stays : (p : Purchase) (sale : Sale) (x : Item) → (t : Sale) × (told p (Some sale) x ≡ Some t) × Stays sale t
told_stays p sale x = by (is_same (purchase_of x) p)
  where
    by : (same : Bool) → (t : Sale) × (cond same (moved (Some sale) x) (Some sale) ≡ Some t) × Stays sale t
    by true = (record sale { progress = progressed sale.progress x }, refl, record { product = refl; epoid = progress_stays sale.progress x })
    by false = (sale, refl, record { product = refl; epoid = λ e is. is })

sale_stays : (p : Purchase) (sale : Sale) (items : List Item) → (t : Sale) × (sale_from p (Some sale) items ≡ Some t) × Stays sale t
sale_stays p sale [] = (sale, refl, record { product = refl; epoid = λ e is. is })
sale_stays p sale (x ∷ items) =
    let next = told_stays p sale x in
    let last = sale_stays p next.0 items in (
      last.0,
      ap (λ (s : Option Sale). sale_from p s items) next.1 ∙ last.1,
      record { product = last.2.product ∙ next.2.product; epoid = λ e is. last.2.epoid e (next.2.epoid e is) },
    )

serves_before : (products others : List Product) (before after : Sale) → Stays before after → Serves products others after → Serves products others before
serves_before products others before after stays serves =
    record {
      there = subst (λ (id : ℕ). is_some (product_in others id) ≡ true) stays.product serves.there;
      same = λ e is. subst (λ (id : ℕ). goods_in others id ≡ goods_in products id) stays.product (serves.same e (stays.epoid e is));
    }

-- what serves all sales served those before the last items
front_served : (products others : List Product) (front back : List Item) → ServesAll products others (front ++ back) → ServesAll products others front
front_served products others front back serves p sale there =
    let later = sale_stays p sale back in
    serves_before products others sale later.0 later.2
    (serves p later.0 (sale_behind p None front back ∙ ap (λ (s : Option Sale). sale_from p s back) there ∙ later.1))

quoted_over : (shop : Shop) (others : List Product) (p : Purchase) (product : ℕ) (price : Price) (request : List ℕ) (o : Option Sale) → (is_none o && is_some (product_in shop.products product)) ≡ true
    → ((sale : Sale) → moved o (item.Quoted p product price request) ≡ Some sale → Serves shop.products others sale) → (is_none o && is_some (product_in others product)) ≡ true
quoted_over shop others p product price request None may serves = (serves (record { product = product; price = price; request = request; progress = progress.Quoted }) refl).there
quoted_over shop others p product price request (Some sale) may serves = absurd (false≢true may)

delivered_over : (shop : Shop) (others : List Product) (p : Purchase) (epoid : Epoid) (checksum : List ℕ) (o : Option Sale)
    → of_sale (λ sale. delivery_follows shop.stall (goods_in shop.products sale.product) (next_serial shop.items) epoid checksum sale.progress) o ≡ true
    → ((sale : Sale) → moved o (item.Delivered p epoid checksum) ≡ Some sale → Serves shop.products others sale)
    → of_sale (λ sale. delivery_follows shop.stall (goods_in others sale.product) (next_serial shop.items) epoid checksum sale.progress) o ≡ true
delivered_over shop others p epoid checksum None may serves = may
delivered_over shop others p epoid checksum (Some sale) may serves =
    by sale.progress may (serves (record sale { progress = progressed sale.progress (item.Delivered p epoid checksum) }) refl).same
  where
    by : (before : Progress) → delivery_follows shop.stall (goods_in shop.products sale.product) (next_serial shop.items) epoid checksum before ≡ true
        → ((e : Epoid) → epoid_in (progressed before (item.Delivered p epoid checksum)) ≡ Some e → goods_in others sale.product ≡ goods_in shop.products sale.product)
        → delivery_follows shop.stall (goods_in others sale.product) (next_serial shop.items) epoid checksum before ≡ true
    by progress.Quoted may same = subst (λ (goods : List ℕ). is_sealed_next shop.stall goods (next_serial shop.items) epoid checksum ≡ true) (sym (same epoid refl)) may
    by (progress.Delivered e) may same = may
    by (progress.Endorsed e o) may same = may
    by (progress.Settled e o r) may same = may

endorsed_over : (shop : Shop) (others : List Product) (offers : Option Tariff) (p : Purchase) (order : List ℕ) (o : Option Sale) → of_sale (λ sale. order_follows shop p order sale sale.progress) o ≡ true
    → ((sale : Sale) → moved o (item.Endorsed p order) ≡ Some sale → Serves shop.products others sale)
    → of_sale (λ sale. order_follows (record shop { products = others; offers = offers }) p order sale sale.progress) o ≡ true
endorsed_over shop others offers p order None may serves = may
endorsed_over shop others offers p order (Some sale) may serves = by sale.progress may (serves (record sale { progress = progressed sale.progress (item.Endorsed p order) }) refl).same
  where
    by : (before : Progress) → order_follows shop p order sale before ≡ true
        → ((e : Epoid) → epoid_in (progressed before (item.Endorsed p order)) ≡ Some e → goods_in others sale.product ≡ goods_in shop.products sale.product)
        → order_follows (record shop { products = others; offers = offers }) p order sale before ≡ true
    by progress.Quoted may same = may
    by (progress.Delivered e) may same =
        subst (λ (goods : List ℕ). is_ok (order_taken shop.stall p sale e (sha256 (sealed_goods (key_of shop.stall e.serial) goods)) order) ≡ true) (sym (same e refl)) may
    by (progress.Endorsed e kept) may same = may
    by (progress.Settled e kept part) may same = may

follows_over : (shop : Shop) (others : List Product) (offers : Option Tariff) (x : Item) → follows shop x ≡ true
    → ((sale : Sale) → moved (sale_in shop.items (purchase_of x)) x ≡ Some sale → Serves shop.products others sale) → follows (record shop { products = others; offers = offers }) x ≡ true
follows_over shop others offers (item.Quoted p product price request) may serves = quoted_over shop others p product price request (sale_in shop.items p) may serves
follows_over shop others offers (item.Delivered p epoid checksum) may serves = delivered_over shop others p epoid checksum (sale_in shop.items p) may serves
follows_over shop others offers (item.Endorsed p order) may serves = endorsed_over shop others offers p order (sale_in shop.items p) may serves
follows_over shop others offers (item.Settled p part) may serves = may

all_over : (start : Shop) (others : List Product) (offers : Option Tariff) (items : List Item) → all_follow start items ≡ true → ServesAll start.products others (start.items ++ items)
    → all_follow (record start { products = others; offers = offers }) items ≡ true
all_over start others offers [] all serves = refl
all_over start others offers (x ∷ items) all serves =
    let parts = both_true (follows start x) (all_follow (with_item start x) items) all in
    let rest : ServesAll start.products others ((start.items ++ x ∷ []) ++ items) =
    subst (λ (xs : List Item). ServesAll start.products others xs) (sym (append_assoc start.items (x ∷ []) items)) serves in
    let here = front_served start.products others (start.items ++ x ∷ []) items rest in
    let first : follows (record start { products = others; offers = offers }) x ≡ true =
    follows_over start others offers x parts.0 (λ sale there. here (purchase_of x) sale (behind start.items x ∙ there)) in
    rw (first, all_over (with_item start x) others offers items parts.1 rest) refl

pub shelves_may_change : ShelvesMayChange
shelves_may_change shop others offers kept serves = record { all = kept.all; follow = all_over (unkept shop) others offers shop.items kept.follow serves }

-- ---- shelves that lost something

-- a restart tells the first item that may not stand where it does
stops : (start : Shop) (front back : List Item) (x : Item) (i : ℕ) → AllByRecursion IsItem (front ++ x ∷ back) → all_follow start front ≡ true
    → follows (record start { items = start.items ++ front }) x ≡ false → restarted start i (map item_bytes (front ++ x ∷ back)) ≡ Err (i + length front)
stops start [] back x i all may not =
    let here : follows start x ≡ false = subst (λ (xs : List Item). follows (record start { items = xs }) x ≡ false) (append-nil start.items) not in
    let up : taken_up start (item_of (item_bytes x)) ≡ None = rw (item_reads_back x all.0, here) refl in
    let place : i ≡ i + 0 = omega arith in
    ap (or_bad i (λ next. restarted next (i + 1) (map item_bytes back))) up ∙ ap (λ (n : ℕ). let r : Result Shop ℕ = Err n in r) place
stops start (y ∷ front) back x i all may not =
    let parts = both_true (follows start y) (all_follow (with_item start y) front) may in
    let up : taken_up start (item_of (item_bytes y)) ≡ Some (with_item start y) = rw (item_reads_back y all.0, parts.0) refl in
    let there = subst (λ (xs : List Item). follows (record start { items = xs }) x ≡ false) (sym (append_assoc start.items (y ∷ []) front)) not in
    let place : (i + 1) + length front ≡ i + length (y ∷ front) = omega arith in
    ap (or_bad i (λ next. restarted next (i + 1) (map item_bytes (front ++ x ∷ back)))) up ∙ stops (with_item start y) front back x (i + 1) all.1 parts.1 there
    ∙ ap (λ (n : ℕ). let r : Result Shop ℕ = Err n in r) place

-- so with a shelf that serves the sales before an item, and not this one
is_bad : (shop : Shop) (others : List Product) (offers : Option Tariff) (front back : List Item) (x : Item) → IsKept shop → shop.items ≡ front ++ x ∷ back → ServesAll shop.products others front
    → follows (record shop { products = others; offers = offers; items = front }) x ≡ false → restarted (new_shop shop.stall others offers) 0 (map item_bytes shop.items) ≡ Err (length front)
is_bad shop others offers front back x kept is serves not =
    let start = unkept shop in
    let may : all_follow (new_shop shop.stall others offers) front ≡ true = all_over start others offers front (item_follows shop front back x kept is).0 serves in
    let all : AllByRecursion IsItem (front ++ x ∷ back) = subst (AllByRecursion IsItem) is kept.all in
    let place : 0 + length front ≡ length front = omega arith in
    ap (λ (items : List Item). restarted (new_shop shop.stall others offers) 0 (map item_bytes items)) is ∙ stops (new_shop shop.stall others offers) front back x 0 all may not
    ∙ ap (λ (n : ℕ). let r : Result Shop ℕ = Err n in r) place

pub lost_product_is_bad : LostProductIsBad
lost_product_is_bad shop others offers front back p product price request kept is serves lost =
    let x = item.Quoted p product price request in
    let first = both_true (is_none (sale_in front p)) (is_some (product_in shop.products product)) (item_follows shop front back x kept is).1 in
    is_bad shop others offers front back x kept is serves (rw (first.0, lost) refl)

and_false : (a b : Bool) → b ≡ false → (a && b) ≡ false
and_false true b is = is
and_false false b is = refl

pub other_goods_are_bad : OtherGoodsAreBad
other_goods_are_bad shop others offers front back p epoid checksum sale kept is serves there apart =
    by sale.progress refl (subst (λ (o : Option Sale). of_sale (λ sale. delivery_follows shop.stall (goods_in shop.products sale.product) (next_serial front) epoid checksum sale.progress) o ≡ true) there (item_follows shop front back x kept is).1)
  where
    x : Item
    x = item.Delivered p epoid checksum

    key : List ℕ
    key = key_of shop.stall epoid.serial

    front_of : List ℕ → Bool
    front_of goods = epoid.merchant.0 == shop.stall.id.0 && epoid.serial == next_serial front && nat_le (length goods) MAX_GOODS

    compared : sale.progress ≡ progress.Quoted → checksum ≡ sha256 (sealed_goods key (goods_in shop.products sale.product)) → (same : Bool) → bytes_eq checksum (sha256 (sealed_goods key (goods_in others sale.product))) ≡ same
        → (restarted (new_shop shop.stall others offers) 0 (map item_bytes shop.items) ≡ Err (length front))
        ⊎ Collision (sealed_for shop.stall others epoid.serial sale.product) (sealed_for shop.stall shop.products epoid.serial sale.product)
    compared quoted sealed true e =
        let one : checksum ≡ sha256 (sealed_goods key (goods_in others sale.product)) = (bytes_eq-Decides checksum (sha256 (sealed_goods key (goods_in others sale.product)))).0 e in
        inr (record {
          differ = λ same. apart (opens_once key (codes "good") (sealed_goods key (goods_in others sale.product)) (goods_in others sale.product) (goods_in shop.products sale.product) refl same);
          same_digest = sym one ∙ sealed;
        })
    compared quoted sealed false e =
        let bad : is_sealed_next shop.stall (goods_in others sale.product) (next_serial front) epoid checksum ≡ false = and_false (front_of (goods_in others sale.product)) _ e in
        let not : follows (record shop { products = others; offers = offers; items = front }) x ≡ false = rw (there, quoted) bad in
        inl (is_bad shop others offers front back x kept is serves not)

    by : (before : Progress) → sale.progress ≡ before → delivery_follows shop.stall (goods_in shop.products sale.product) (next_serial front) epoid checksum before ≡ true
        → (restarted (new_shop shop.stall others offers) 0 (map item_bytes shop.items) ≡ Err (length front))
        ⊎ Collision (sealed_for shop.stall others epoid.serial sale.product) (sealed_for shop.stall shop.products epoid.serial sale.product)
    by progress.Quoted quoted may =
        let digest = both_true (front_of (goods_in shop.products sale.product)) (bytes_eq checksum (sha256 (sealed_goods key (goods_in shop.products sale.product)))) may in
        let sealed : checksum ≡ sha256 (sealed_goods key (goods_in shop.products sale.product)) = (bytes_eq-Decides checksum (sha256 (sealed_goods key (goods_in shop.products sale.product)))).0 digest.1 in
        compared quoted sealed (bytes_eq checksum (sha256 (sealed_goods key (goods_in others sale.product)))) refl
    by (progress.Delivered e) is may = absurd (false≢true may)
    by (progress.Endorsed e o) is may = absurd (false≢true may)
    by (progress.Settled e o r) is may = absurd (false≢true may)
