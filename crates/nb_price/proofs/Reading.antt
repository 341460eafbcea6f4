-- A shelf, read item by item.
use Rattle.std.proofs.Common.{◌≡◌, ℕ, ◌+◌, ◌<◌, ◌≤◌, Bool, true, false, List, [], ◌∷◌, ◌++◌, length, Option, None, Some, refl, sym, ap, subst, ◌∙◌, arith, append_assoc, append-nil, length-append}
use Rattle.std.specs.Prelude.{◌≢◌, ◌==◌, nat_eq, cond, Err}
use Rattle.std.specs.Cmp.{nat_eq_equiv}
use Rattle.std.specs.List.{AllByRecursion, IsDistinct, list_any}
use Rattle.std.proofs.lemmas.Bool.{eqb-true, false≢true}
use Rattle.std.proofs.lemmas.Grind.{flat_map-append}
use Rattle.std.proofs.lemmas.List.{map-append}
use Rattle.std.proofs.lemmas.Map.Keys.{IsDistinct-push}
use Rattle.std.proofs.lemmas.Map.Views.{Contains-from_any}
use Rattle.std.specs.Fmt.{decimal}
use Rattle.nb_price.specs.Shelf.{Item, IsItem, item_bytes, shelf_bytes, ids, BeginsWith, BeginsWithNone}
use Rattle.nb_price.specs.Products.{Product, product_of, products_of, product_in}
use Rattle.nb_price.specs.Reads.{Front, FailsAt, RepeatsAt, IsCatalogue, ReadsShelf, Adds}
use Rattle.nb_price.specs.declared.line.Found.{Found}
use Rattle.nb_price.specs.declared.fault.ShelfFault.{ShelfFault}
use Rattle.nb_price.specs.declared.fault.ShelfFault.TheVariants.{BadItem, Twice, NoMemory}

-- so many items of the bytes were read, and their products are these
pub record SoFar (bytes : List ℕ) (found : List Product) (rest : List ℕ) (item : ℕ) : Type 0 where
  pub items : List Item
  pub front : Front bytes items rest
  pub products : found ≡ products_of items
  pub number : item ≡ length items
  pub few : length items + length rest ≤ length bytes

-- nothing was read
pub none_yet : (bytes : List ℕ) → SoFar bytes [] bytes 0
unfolding IsDistinct
none_yet bytes = record {
  items = [];
  front = record { shelf = record { all = tt; apart = tt }; spelled = refl };
  products = refl;
  number = refl;
  few = omega arith;
}

-- all are items, and one more
all_more : (items : List Item) (x : Item) → AllByRecursion IsItem items → IsItem x → AllByRecursion IsItem (items ++ x ∷ [])
all_more [] x all is = (is, tt)
all_more (y ∷ items) x all is = (all.0, all_more items x all.1 is)

-- a number with no product is none of the items'; one with a product is
absent : (items : List Item) (id : ℕ) → product_in (products_of items) id ≡ None → list_any (nat_eq id) (ids items) ≡ false
absent [] id e = refl
absent (x ∷ items) id none = by (absent items id) (nat_eq id x.id) refl
  where
    no_some : (p : Product) → ◌≡◌ {A = Option Product} (Some p) None → ⊥
    no_some p e = cc

    by : (product_in (products_of items) id ≡ None → list_any (nat_eq id) (ids items) ≡ false) → (b : Bool) → nat_eq id x.id ≡ b → list_any (nat_eq id) (ids (x ∷ items)) ≡ false
    by rest true is = absurd (no_some (product_of x) (sym (ap (λ (b : Bool). cond b (Some (product_of x)) (product_in (products_of items) id)) is) ∙ none))
    by rest false is =
        let inner = rest (sym (ap (λ (b : Bool). cond b (Some (product_of x)) (product_in (products_of items) id)) is) ∙ none) in
        rw (is, inner) refl

present : (items : List Item) (id : ℕ) → product_in (products_of items) id ≢ None → list_any (nat_eq id) (ids items) ≡ true
present [] id some = absurd (some refl)
present (x ∷ items) id some = by (present items id) (nat_eq id x.id) refl
  where
    by : (product_in (products_of items) id ≢ None → list_any (nat_eq id) (ids items) ≡ true) → (b : Bool) → nat_eq id x.id ≡ b → list_any (nat_eq id) (ids (x ∷ items)) ≡ true
    by rest true is = rw is refl
    by rest false is =
        let inner = rest (λ none. some (ap (λ (b : Bool). cond b (Some (product_of x)) (product_in (products_of items) id)) is ∙ none)) in
        rw (is, inner) refl

-- an item has a byte
some_byte : (x : Item) → 1 ≤ length (item_bytes x)
unfolding item_bytes
some_byte x =
    let behind : List ℕ = decimal x.price ++ 59 ∷ (x.name ++ 59 ∷ (decimal (length x.goods) ++ 10 ∷ x.goods)) in
    omega (arith, length-append (decimal x.id) (59 ∷ behind))

-- what follows an item is shorter
pub smaller : (rest next : List ℕ) (x : Item) → BeginsWith rest x next → length next < length rest
smaller rest next x begins = omega (arith, ap length begins.1 ∙ length-append (item_bytes x) next, some_byte x)

-- one item more
pub one_more : (bytes rest next : List ℕ) (found new : List Product) (item : ℕ) (x : Item) → SoFar bytes found rest item → BeginsWith rest x next
    → product_in found x.id ≡ None → new ≡ found ++ product_of x ∷ [] → SoFar bytes new next (item + 1)
one_more bytes rest next found new item x so begins none new_is =
    let unheld : product_in (products_of so.items) x.id ≡ None = subst (λ (l : List Product). product_in l x.id ≡ None) so.products none in
    let apart : IsDistinct nat_eq (ids (so.items ++ x ∷ [])) =
    subst (IsDistinct nat_eq) (sym (map-append (λ (y : Item). y.id) so.items (x ∷ []))) (IsDistinct-push nat_eq_equiv (ids so.items) x.id so.front.shelf.apart (absent so.items x.id unheld)) in
    let spelled : bytes ≡ shelf_bytes (so.items ++ x ∷ []) ++ next =
    so.front.spelled ∙ ap (λ (l : List ℕ). shelf_bytes so.items ++ l) begins.1
    ∙ sym (append_assoc (shelf_bytes so.items) (item_bytes x) next)
    ∙ ap (λ (l : List ℕ). l ++ next) (
    ap (λ (l : List ℕ). shelf_bytes so.items ++ l) (sym (append-nil (item_bytes x)))
    ∙ sym (flat_map-append item_bytes so.items (x ∷ []))
    ) in
    let long : length (so.items ++ x ∷ []) ≡ length so.items + 1 = length-append so.items (x ∷ []) in
    record {
      items = so.items ++ x ∷ [];
      front = record { shelf = record { all = all_more so.items x so.front.shelf.all begins.0; apart = apart }; spelled = spelled };
      products = new_is ∙ ap (λ (l : List Product). l ++ product_of x ∷ []) so.products ∙ sym (map-append product_of so.items (x ∷ []));
      number = omega (arith, so.number, long);
      few = omega (arith, long, so.few, smaller rest next x begins);
    }

-- no item stands behind those that were read
pub fails : (bytes rest : List ℕ) (found : List Product) (item : ℕ) → SoFar bytes found rest item → rest ≢ [] → BeginsWithNone rest → FailsAt bytes (item + 1)
fails bytes rest found item so some none =
    record { items = so.items; rest = rest; front = so.front; number = omega (arith, so.number); some = some; none = none }

-- an item stands there whose number they have
pub repeats : (bytes rest next : List ℕ) (found : List Product) (item : ℕ) (x : Item) → SoFar bytes found rest item → BeginsWith rest x next
    → product_in found x.id ≢ None → RepeatsAt bytes (item + 1) x.id
repeats bytes rest next found item x so begins some =
    let held : product_in (products_of so.items) x.id ≢ None = subst (λ (l : List Product). product_in l x.id ≢ None) so.products some in
    record {
      items = so.items;
      rest = rest;
      again = x;
      more = next;
      front = so.front;
      number = omega (arith, so.number);
      begins = begins;
      same = refl;
      held = Contains-from_any {eq = nat_eq} eqb-true x.id (ids so.items) (present so.items x.id held);
    }

-- nothing is left
pub all_read : (bytes rest : List ℕ) (found : List Product) (item : ℕ) → SoFar bytes found rest item → rest ≡ [] → IsCatalogue bytes found
all_read bytes rest found item so e =
    record { items = so.items; front = subst (Front bytes so.items) e so.front; products = so.products }

-- what was found of an item is its product
pub found_product : (id price : ℕ) (goods : List ℕ) (x : Item) → id ≡ x.id → price ≡ x.price → goods ≡ x.goods
    → (let p : Product = record { id = id; price = price; goods = goods } in p) ≡ product_of x
found_product id price goods x a b c = rw (a, b, c) refl

-- where an item was not added, the reading has that fault
pub not_added : (bytes rest next : List ℕ) (old new : List Product) (item : ℕ) (x : Item) (found : Found) (fault : ShelfFault) → SoFar bytes old rest item
    → BeginsWith rest x next → found.id ≡ x.id → Adds old new (item + 1) found (Err fault) → ReadsShelf bytes (Err fault)
not_added bytes rest next old new item x found (BadItem n) so begins id adds = absurd adds
not_added bytes rest next old new item x found (Twice n twice) so begins id adds =
    let there : product_in old x.id ≢ None = subst (λ (k : ℕ). product_in old k ≢ None) id adds.2 in
    let repeated : RepeatsAt bytes (item + 1) x.id = repeats bytes rest next old item x so begins there in
    subst (λ (k : ℕ). RepeatsAt bytes n k) (sym (adds.1 ∙ id)) (subst (λ (k : ℕ). RepeatsAt bytes k x.id) (sym adds.0) repeated)
not_added bytes rest next old new item x found NoMemory so begins id adds = tt

-- whether a list is empty is told by its length
pub not_empty : (b : Bool) (rest : List ℕ) → b ≡ (length rest == 0) → b ≡ false → rest ≢ []
not_empty b rest is false_is e = absurd (false≢true (sym false_is ∙ is ∙ ap (λ (l : List ℕ). length l == 0) e))

pub is_empty : (b : Bool) (rest : List ℕ) → b ≡ (length rest == 0) → b ≡ true → rest ≡ []
is_empty b [] is true_is = refl
is_empty b (x ∷ rest) is true_is = absurd (omega (arith, eqb-true (length (x ∷ rest)) 0 (sym is ∙ true_is)))
