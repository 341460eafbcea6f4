-- What holds of each element, as a loop goes over them.
use Rattle.std.proofs.Common.{◌≡◌, ℕ, ◌+◌, ◌<◌, zero, suc, List, [], ◌∷◌, ◌++◌, length, map, take, slice_index_or, Option, Some, None, true, false, true≢false, ne_eqb, ◌==◌, ◌∙◌, sym, subst, arith}
use Rattle.std.specs.Prelude.{IfSome}
use Rattle.std.specs.List.{AllByRecursion}
use Rattle.std.proofs.lemmas.List.{map_more}

module _ {X Y : Type 0} (P : Y → Type 0) (f : X → Y) where
  pushed : (ys : List Y) (y : Y) → AllByRecursion P ys → P y → AllByRecursion P (ys ++ y ∷ [])
  pushed [] y all is = (is, tt)
  pushed (z ∷ ys) y all is = (all.0, pushed ys y all.1 is)

  -- one more
  pub grown : (xs : List X) (i : ℕ) (d : X) → i < length xs → AllByRecursion P (map f (take i xs)) → P (f (slice_index_or xs i d)) → AllByRecursion P (map f (take (i + 1) xs))
  grown xs i d within all is = subst (AllByRecursion P) (sym (map_more f xs i d within)) (pushed (map f (take i xs)) (f (slice_index_or xs i d)) all is)

  -- each of them
  pub picked : (xs : List X) (i : ℕ) (d : X) → i < length xs → AllByRecursion P (map f xs) → P (f (slice_index_or xs i d))
  picked [] i d within all = absurd (omega (arith, within))
  picked (x ∷ xs) zero d within all = all.0
  picked (x ∷ xs) (suc i) d within all = picked xs i d (omega (arith, within)) all.1

-- what follows from it holds of it too
pub weaker : {X : Type 0} (o : Option X) (P Q : X → Type 0) → ((x : X) → P x → Q x) → IfSome o P → IfSome o Q
weaker None P Q follows is = is
weaker (Some x) P Q follows is = follows x is

-- a list that is not empty
pub some_are : {X Y : Type 0} (f : X → Y) (xs : List X) → false ≡ (length xs == 0) → 0 < length (map f xs)
some_are f [] e = absurd cc
some_are f (x ∷ xs) e = omega arith

-- and one that is
pub none_are : {X Y : Type 0} (f : X → Y) (xs : List X) → true ≡ (length xs == 0) → 0 < length (map f xs) → ⊥
none_are f [] e some = omega (arith, some)
none_are f (x ∷ xs) e some = absurd (true≢false (e ∙ ne_eqb (length (x ∷ xs)) 0 (λ is. omega (arith, is))))
