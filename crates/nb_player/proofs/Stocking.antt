-- What merchants sell, shelf by shelf.
use Rattle.std.proofs.Common.{◌≡◌, ℕ, zero, suc, ◌+◌, Bool, true, false, cond, List, [], ◌∷◌, ◌++◌, map, take, length, Some, None, refl, sym, ap, subst, ◌∙◌, arith, append_assoc, append-nil, add-one, length-append}
use Rattle.std.specs.Prelude.{◌==◌, ◌&&◌, ◌||◌, ◌%◌}
use Rattle.std.specs.List.{filter, list_any, slice_get}
use Rattle.std.proofs.lemmas.Bool.{false≢true, eq-eqb}
use Rattle.std.proofs.lemmas.Option.{slice_get_within, slice_get_read, get_or_from_slice_get}
use Rattle.nb_units.specs.declared.ids.PartyId.{PartyId}
use Rattle.nb_price.specs.Products.{Product, product_in}
use Rattle.nb_script.specs.declared.line.Merchant.{Merchant}
use Rattle.nb_script.specs.declared.line.Shelf.{Shelf}
use Rattle.nb_script.specs.Settings.{AreShelves, AreShelvesBehind, IsShelf, is_of}
use Rattle.nb_player.specs.declared.stock.TheConstants.{CYCLE}
use Rattle.nb_player.specs.Stock.{IsNew, catalogue_of, goods_of, is_sellers, merchants_of, product_of, stall_of}

-- ---- goods

-- one byte more
pub goods_more : (n : ℕ) → goods_of (n + 1) ≡ goods_of n ++ n % CYCLE ∷ []
unfolding goods_of
goods_more n = rw (add-one n) refl

pub no_goods : goods_of 0 ≡ []
unfolding goods_of
no_goods = refl

-- so many
pub goods_length : (n : ℕ) → length (goods_of n) ≡ n
unfolding goods_of
goods_length zero = refl
goods_length (suc n) = length-append (goods_of n) (n % CYCLE ∷ []) ∙ ap (λ (k : ℕ). k + 1) (goods_length n) ∙ add-one n

-- ---- catalogues

-- a shelf more, where it is the merchant's and where it is not
pub catalogue_more : (merchant : PartyId) (shelves : List Shelf) (x : Shelf) → catalogue_of merchant (shelves ++ x ∷ []) ≡ cond (is_sellers merchant x) (catalogue_of merchant shelves ++ product_of x ∷ []) (catalogue_of merchant shelves)
catalogue_more merchant [] x = by (is_sellers merchant x)
  where
    by : (b : Bool) → map product_of (cond b (x ∷ []) []) ≡ cond b (product_of x ∷ []) []
    by true = refl
    by false = refl
catalogue_more merchant (y ∷ shelves) x = by (is_sellers merchant y) (is_sellers merchant x) (filter (is_sellers merchant) (shelves ++ x ∷ [])) (filter (is_sellers merchant) shelves) (catalogue_more merchant shelves x)
  where
    by : (b d : Bool) (more few : List Shelf) → map product_of more ≡ cond d (map product_of few ++ product_of x ∷ []) (map product_of few)
        → map product_of (cond b (y ∷ more) more) ≡ cond d (map product_of (cond b (y ∷ few) few) ++ product_of x ∷ []) (map product_of (cond b (y ∷ few) few))
    by true true more few e = ap (λ (ps : List Product). product_of y ∷ ps) e
    by true false more few e = ap (λ (ps : List Product). product_of y ∷ ps) e
    by false d more few e = e

pub own_more : (merchant : PartyId) (shelves : List Shelf) (x : Shelf) → x.merchant.0 ≡ merchant.0 → catalogue_of merchant (shelves ++ x ∷ []) ≡ catalogue_of merchant shelves ++ product_of x ∷ []
own_more merchant shelves x is =
    catalogue_more merchant shelves x ∙ ap (λ (b : Bool). cond b (catalogue_of merchant shelves ++ product_of x ∷ []) (catalogue_of merchant shelves)) (eq-eqb x.merchant.0 merchant.0 is)

pub other_more : (merchant : PartyId) (shelves : List Shelf) (x : Shelf) → (x.merchant.0 == merchant.0) ≡ false → catalogue_of merchant (shelves ++ x ∷ []) ≡ catalogue_of merchant shelves
other_more merchant shelves x is =
    catalogue_more merchant shelves x ∙ ap (λ (b : Bool). cond b (catalogue_of merchant shelves ++ product_of x ∷ []) (catalogue_of merchant shelves)) is

-- what no shelf is of stands in no catalogue
pub sells_none : (merchant : PartyId) (product : ℕ) (shelves : List Shelf) → list_any (is_of merchant product) shelves ≡ false → product_in (catalogue_of merchant shelves) product ≡ None
sells_none merchant product [] none = refl
sells_none merchant product (x ∷ shelves) none =
    by (x.merchant.0 == merchant.0) none (sells_none merchant product shelves)
  where
    rest : List Product
    rest = catalogue_of merchant shelves

    first : (b c : Bool) → (b || c) ≡ false → (c ≡ false → product_in rest product ≡ None) → cond b (Some (product_of x)) (product_in rest product) ≡ None
    first true c e f = absurd (false≢true (sym e))
    first false c e f = f e

    by : (a : Bool) → ((a && (product == x.product)) || list_any (is_of merchant product) shelves) ≡ false → (list_any (is_of merchant product) shelves ≡ false → product_in rest product ≡ None)
        → product_in (map product_of (cond a (x ∷ filter (is_sellers merchant) shelves) (filter (is_sellers merchant) shelves))) product ≡ None
    by true e f = first (product == x.product) (list_any (is_of merchant product) shelves) e f
    by false e f = f e

-- each of these shelves is within its limits, and new
nth_shelf : (before shelves : List Shelf) (k : ℕ) (x : Shelf) → AreShelvesBehind before shelves → slice_get shelves k ≡ Some x
    → IsShelf x × (list_any (is_of x.merchant x.product) (before ++ take k shelves) ≡ false)
nth_shelf before [] k x are is = absurd (omega (arith, slice_get_within [] k x is))
nth_shelf before (y ∷ shelves) zero x are is = subst (λ (z : Shelf). IsShelf z × (list_any (is_of z.merchant z.product) (before ++ []) ≡ false)) (same is)
    (are.0, ap (list_any (is_of y.merchant y.product)) (append-nil before) ∙ are.1)
  where
    same : slice_get (y ∷ shelves) 0 ≡ Some x → y ≡ x
    same e = get_or_from_slice_get (y ∷ shelves) 0 x x e
nth_shelf before (y ∷ shelves) (suc k) x are is =
    let rest = nth_shelf (before ++ y ∷ []) shelves k x are.2 (later is) in
    (rest.0, ap (list_any (is_of x.merchant x.product)) (sym (append_assoc before (y ∷ []) (take k shelves))) ∙ rest.1)
  where
    later : slice_get (y ∷ shelves) (suc k) ≡ Some x → slice_get shelves k ≡ Some x
    later e =
        let there = slice_get_within (y ∷ shelves) (suc k) x e in
        slice_get_read shelves (length shelves) k x refl (omega arith) (sym (get_or_from_slice_get (y ∷ shelves) (suc k) x x e))

same_party : (a b : PartyId) → a.0 ≡ b.0 → a ≡ b
same_party a b e = ap (λ (n : ℕ). let x : PartyId = record { 0 = n } in x) e

-- so the product of a merchant's shelf is new to its catalogue
pub is_new : (merchant : PartyId) (shelves : List Shelf) (k : ℕ) (x : Shelf) → AreShelves shelves → slice_get shelves k ≡ Some x → x.merchant.0 ≡ merchant.0 → IsNew (catalogue_of merchant (take k shelves)) x
is_new merchant shelves k x are is own =
    let nth = nth_shelf [] shelves k x are is in
    (nth.0, sells_none merchant x.product (take k shelves) (subst (λ (p : PartyId). list_any (is_of p x.product) (take k shelves) ≡ false) (same_party x.merchant merchant own) nth.1))

-- ---- merchants

-- one more
pub merchants_more : (merchants : List Merchant) (shelves : List Shelf) (m : Merchant) → merchants_of (merchants ++ m ∷ []) shelves ≡ merchants_of merchants shelves ++ (stall_of m, catalogue_of m.id shelves) ∷ []
merchants_more [] shelves m = refl
merchants_more (n ∷ merchants) shelves m = ap (λ ms. (stall_of n, catalogue_of n.id shelves) ∷ ms) (merchants_more merchants shelves m)
