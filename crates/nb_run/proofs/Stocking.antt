-- Reading the shelf of one who sells: bytes are the shelf of one list of products, and then have no bad item.
use Rattle.std.proofs.Common.{◌≡◌, ◌⊎◌, inl, inr, ℕ, zero, suc, ◌<◌, true, false, List, [], ◌∷◌, ◌++◌, length, map, Option, Some, None, Ok, Err, refl, sym, ap, subst, ◌∙◌, append_assoc, append-nil, true≢false, arith}
use Rattle.std.specs.Prelude.{nat_eq, slice_index_or, Contains, Result}
use Rattle.std.specs.List.{AllByRecursion, IsDistinct}
use Rattle.std.proofs.lemmas.Bool.{eq-eqb}
use Rattle.std.proofs.lemmas.List.{map-append}
use Rattle.nb_port.specs.Faults.{Rose}
use Rattle.nb_price.specs.declared.limits.TheConstants.{MAX_SHELF}
use Rattle.nb_price.specs.Shelf.{Item, IsItem, item_bytes, shelf_bytes, ids, BeginsWith}
use Rattle.nb_price.specs.Products.{Product, products_of}
use Rattle.nb_price.specs.Reads.{FailsAt, RepeatsAt, IsCatalogue}
use Rattle.nb_price.proofs.Once.{one_item}
use Rattle.nb_price.proofs.Reading.{smaller}
use Rattle.nb_commands.specs.declared.ending.Outcome.{Outcome}
use Rattle.nb_commands.specs.declared.ending.Outcome.TheVariants.{Work}
use Rattle.nb_commands.specs.declared.ending.Job.TheVariants.{Sell}
use Rattle.nb_commands.specs.declared.ending.TheConstants.{OUT_OF_MEMORY}
use Rattle.nb_commands.specs.declared.selling.ShelfEnd.{ShelfEnd}
use Rattle.nb_commands.specs.declared.selling.ShelfEnd.TheVariants as ends
use Rattle.nb_commands.specs.Ending.{EndsWith}
use Rattle.nb_commands.specs.Input.{TookAll}
use Rattle.nb_commands.specs.Selling.{IsShelfInput, ReadsAs, StocksAs, stocked}
use Rattle.nb_commands.proofs.Moving.{same_input, not_longer}

-- ---- one shelf

-- no item stands in no bytes
no_item : (x : Item) (rest : List ℕ) → BeginsWith [] x rest → ⊥
no_item x rest begins = omega (arith, smaller [] rest x begins)

-- where the whole is spelled, and its front, what is left is the spelling of the other items
pub record Rest (items front : List Item) (rest : List ℕ) : Type 0 where
  pub more : List Item
  pub all : AllByRecursion IsItem more
  pub items_are : items ≡ front ++ more
  pub rest_is : rest ≡ shelf_bytes more

pub rest_of : (items front : List Item) (rest : List ℕ) → AllByRecursion IsItem items → AllByRecursion IsItem front → shelf_bytes items ≡ shelf_bytes front ++ rest → Rest items front rest
rest_of items [] rest all each same = record { more = items; all = all; items_are = refl; rest_is = sym same }
rest_of [] (y ∷ front) rest all each same =
    absurd (no_item y (shelf_bytes front ++ rest) (each.0, same ∙ append_assoc (item_bytes y) (shelf_bytes front) rest))
rest_of (x ∷ items) (y ∷ front) rest all each same =
    let bytes = shelf_bytes (x ∷ items) in
    let one = one_item bytes x y (shelf_bytes items) (shelf_bytes front ++ rest) (all.0, refl) (each.0, same ∙ append_assoc (item_bytes y) (shelf_bytes front) rest) in
    let others = rest_of items front rest all.1 each.1 one.1 in
    record {
      more = others.more;
      all = others.all;
      items_are = ap (λ (z : Item). z ∷ items) one.0 ∙ ap (λ (zs : List Item). y ∷ zs) others.items_are;
      rest_is = others.rest_is;
    }

-- what holds of each holds of the one in the midst
in_all : (P : ℕ → Type 0) (before after : List ℕ) (n : ℕ) → AllByRecursion P (before ++ n ∷ after) → P n
in_all P [] after n all = all.0
in_all P (y ∷ before) after n all = in_all P before after n all.1

-- where no number stands twice, none of those before another is that
apart_at : (before after : List ℕ) (n k : ℕ) → IsDistinct nat_eq (before ++ n ∷ after) → k < length before → slice_index_or before k n ≡ n → ⊥
unfolding IsDistinct
apart_at [] after n k distinct small is = omega (arith, small)
apart_at (y ∷ before) after n zero distinct small is = true≢false (sym (eq-eqb y n is) ∙ in_all (λ (z : ℕ). nat_eq y z ≡ false) before after n distinct.0)
apart_at (y ∷ before) after n (suc k) distinct small is = apart_at before after n k distinct.1 (omega (arith, small)) is

module _ (bytes : List ℕ) (products : List Product) (is : IsCatalogue bytes products) where
  spelled : bytes ≡ shelf_bytes is.items
  spelled = is.front.spelled ∙ append-nil (shelf_bytes is.items)

  behind : (front : List Item) (rest : List ℕ) → AllByRecursion IsItem front → bytes ≡ shelf_bytes front ++ rest → Rest is.items front rest
  behind front rest each same = rest_of is.items front rest is.front.shelf.all each (sym spelled ∙ same)

  -- no item of it is bad
  pub not_failing : (item : ℕ) → FailsAt bytes item → ⊥
  not_failing item fails = by r.more r.all r.rest_is
    where
      r : Rest is.items fails.items fails.rest
      r = behind fails.items fails.rest fails.front.shelf.all fails.front.spelled

      by : (more : List Item) → AllByRecursion IsItem more → fails.rest ≡ shelf_bytes more → ⊥
      by [] all rest_is = fails.some rest_is
      by (x ∷ more) all rest_is = fails.none x (shelf_bytes more) (all.0, rest_is)

  -- none has the number of one before it
  pub not_repeating : (item id : ℕ) → RepeatsAt bytes item id → ⊥
  not_repeating item id repeats = by r.more r.all r.items_are r.rest_is
    where
      r : Rest is.items repeats.items repeats.rest
      r = behind repeats.items repeats.rest repeats.front.shelf.all repeats.front.spelled

      by : (more : List Item) → AllByRecursion IsItem more → is.items ≡ repeats.items ++ more → repeats.rest ≡ shelf_bytes more → ⊥
      by [] all items_are rest_is = no_item repeats.again repeats.more (subst (λ (bs : List ℕ). BeginsWith bs repeats.again repeats.more) rest_is repeats.begins)
      by (x ∷ more) all items_are rest_is =
          let one = one_item repeats.rest x repeats.again (shelf_bytes more) repeats.more (all.0, rest_is) repeats.begins in
          let distinct : IsDistinct nat_eq (ids repeats.items ++ x.id ∷ ids more) =
          subst (IsDistinct nat_eq) (ap ids items_are ∙ map-append (λ (y : Item). y.id) repeats.items (x ∷ more)) is.front.shelf.apart in
          let held : Contains (ids repeats.items) x.id = subst (Contains (ids repeats.items)) (sym (ap (λ (y : Item). y.id) one.0 ∙ repeats.same)) repeats.held in
          apart_at (ids repeats.items) (ids more) x.id held.0 distinct held.1 held.2

  -- and it is that of no other products
  pub same_products : (others : List Product) → IsCatalogue bytes others → others ≡ products
  same_products others other = other.products ∙ ap products_of (sym items_are) ∙ sym is.products
    where
      r : Rest is.items other.items []
      r = behind other.items [] other.front.shelf.all other.front.spelled

      none_more : (more : List Item) → AllByRecursion IsItem more → [] ≡ shelf_bytes more → more ≡ []
      none_more [] all same = refl
      none_more (x ∷ more) all same = absurd (no_item x (shelf_bytes more) (all.0, same))

      items_are : is.items ≡ other.items
      items_are = r.items_are ∙ ap (λ (xs : List Item). other.items ++ xs) (none_more r.more r.all r.rest_is) ∙ append-nil other.items

-- ---- where nothing fails

-- a shelf alone is sold, or there was no memory
pub stocks_clean : (left left' : Option (List ℕ)) (source source' links : ℕ) (products : List Product) (outcome : Outcome) → StocksAs left left' source source' links outcome → IsShelfInput left products
    → (Rose source source' → ⊥) → (outcome ≡ Work (Sell links products None)) ⊎ EndsWith outcome OUT_OF_MEMORY
stocks_clean left left' source source' links products outcome stocks input no_source = by stocks.0 stocks.1 stocks.2
  where
    same_bytes : (bytes : List ℕ) → TookAll left left' MAX_SHELF bytes → bytes ≡ input.input
    same_bytes bytes took = same_input left left' input.input bytes MAX_SHELF input.is took

    by : (read : Result (List Product) ShelfEnd) → outcome ≡ stocked links read → ReadsAs left left' source source' read → (outcome ≡ Work (Sell links products None)) ⊎ EndsWith outcome OUT_OF_MEMORY
    by (Ok found) is reads =
        inl (is ∙ ap (λ (ps : List Product). Work (Sell links ps None)) (same_products input.input products input.shelf found (subst (λ (bs : List ℕ). IsCatalogue bs found) (same_bytes reads.input reads.all) reads.is)))
    by (Err ends.ReadFault) is reads = absurd (no_source reads.0)
    by (Err ends.TooLong) is reads = absurd (not_longer left left' input.input MAX_SHELF input.is input.few reads)
    by (Err (ends.BadItem item)) is reads = absurd (elim (subst (λ (bs : List ℕ). FailsAt bs item ⊎ ((id : ℕ) × RepeatsAt bs item id)) (same_bytes reads.input reads.all) reads.bad) [
      | inl fails ↦ not_failing input.input products input.shelf item fails
      | inr repeats ↦ not_repeating input.input products input.shelf item repeats.0 repeats.1
    ])
    by (Err ends.NoMemory) is reads = inr (subst (λ (o : Outcome). EndsWith o OUT_OF_MEMORY) (sym is) refl)
