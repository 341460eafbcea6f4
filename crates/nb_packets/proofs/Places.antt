-- Where a node stands among the others, by its number.
use Rattle.std.proofs.Common.{◌≡◌, ℕ, zero, suc, ◌+◌, ◌<◌, Bool, true, false, cond, List, [], ◌∷◌, ◌++◌, map, set, length, get_or, Option, Some, None, refl, sym, ap, ◌∙◌, arith}
use Rattle.std.specs.Prelude.{slice_get, position, nat_eq, nat_lt, not}
use Rattle.std.specs.List.{prefix_len}
use Rattle.std.proofs.lemmas.Bool.{eqb-true, eq-eqb, false≢true}
use Rattle.std.proofs.lemmas.List.{length-map, map-append}
use Rattle.std.proofs.lemmas.Option.{slice_get-get_or}

no_some : {A : Type 0} {B : Type 0} (x : A) → ◌≡◌ {A = Option A} None (Some x) → B
no_some x e = absurd cc

some_is : {A : Type 0} (x y : A) → ◌≡◌ {A = Option A} (Some x) (Some y) → x ≡ y
some_is x y e = cc

-- a node with the same number in its place leaves the numbers
pub numbers_set : {A : Type 0} (f : A → ℕ) (xs : List A) (i : ℕ) (was now : A) → slice_get xs i ≡ Some was → f now ≡ f was → map f (set xs i now) ≡ map f xs
numbers_set f [] i was now e same = refl
numbers_set f (x ∷ xs) zero was now e same = ap (λ (n : ℕ). n ∷ map f xs) (same ∙ sym (ap f (some_is x was e)))
numbers_set f (x ∷ xs) (suc i) was now e same = ap (λ (ns : List ℕ). f x ∷ ns) (numbers_set f xs i was now e same)

-- the same node in its place leaves the nodes
pub set_same : {A : Type 0} (xs : List A) (i : ℕ) (x : A) → slice_get xs i ≡ Some x → set xs i x ≡ xs
set_same [] i x e = refl
set_same (y ∷ xs) zero x e = ap (λ z. z ∷ xs) (sym (some_is y x e))
set_same (y ∷ xs) (suc i) x e = ap (λ ys. y ∷ ys) (set_same xs i x e)

nat_eq_sym : (a b : ℕ) → nat_eq a b ≡ nat_eq b a
nat_eq_sym a b = by (nat_eq a b) (nat_eq b a) refl refl
  where
    by : (p q : Bool) → nat_eq a b ≡ p → nat_eq b a ≡ q → nat_eq a b ≡ nat_eq b a
    by true true e f = e ∙ sym f
    by false false e f = e ∙ sym f
    by true false e f = absurd (false≢true (sym f ∙ eq-eqb b a (sym (eqb-true a b e))))
    by false true e f = absurd (false≢true (sym e ∙ eq-eqb a b (sym (eqb-true b a f))))

prefix_same : {A : Type 0} (k : ℕ) (f : A → ℕ) (xs : List A) → prefix_len (λ (n : ℕ). not (nat_eq k n)) (map f xs) ≡ prefix_len (λ (x : A). not (nat_eq (f x) k)) xs
prefix_same k f [] = refl
prefix_same k f (x ∷ xs) = ap (λ (b : Bool). cond (not b) (1 + (prefix_len (λ (n : ℕ). not (nat_eq k n)) (map f xs))) 0) (nat_eq_sym k (f x))
    ∙ ap (λ (n : ℕ). cond (not (nat_eq (f x) k)) (1 + n) 0) (prefix_same k f xs)

-- a number stands among the numbers where its node stands
pub position_number : {A : Type 0} (k : ℕ) (f : A → ℕ) (xs : List A) → position (nat_eq k) (map f xs) ≡ position (λ (x : A). nat_eq (f x) k) xs
position_number k f xs = ap (λ (n : ℕ). cond (nat_lt n (length (map f xs))) (Some n) None) (prefix_same k f xs)
    ∙ ap (λ (n : ℕ). cond (nat_lt (prefix_len (λ x. not (nat_eq (f x) k)) xs) n) (Some (prefix_len (λ x. not (nat_eq (f x) k)) xs)) None) (length-map xs f)

-- what stands at a place within a list
pub stands_at : {A : Type 0} (xs : List A) (i : ℕ) (x d : A) → i < length xs → x ≡ get_or xs i d → slice_get xs i ≡ Some x
stands_at xs i x d within is = slice_get-get_or xs i d within ∙ ap Some (sym is)

pub numbers_at : {A : Type 0} (f : A → ℕ) (xs : List A) (i : ℕ) (was now d : A) → i < length xs → was ≡ get_or xs i d → f now ≡ f was → map f (set xs i now) ≡ map f xs
numbers_at f xs i was now d within is same = numbers_set f xs i was now (stands_at xs i was d within is) same

-- ---- a number more

-- a node with a new number behind the others
pub numbers_more : {A : Type 0} (f : A → ℕ) (keys more : List ℕ) (old new : List A) (x : A) → keys ≡ map f old → more ≡ keys ++ f x ∷ [] → new ≡ old ++ x ∷ [] → more ≡ map f new
numbers_more f keys more old new x numbers added pushed = added ∙ ap (λ (ns : List ℕ). ns ++ f x ∷ []) numbers ∙ sym (map-append f old (x ∷ [])) ∙ sym (ap (map f) pushed)

-- its number is not among the numbers, where no node has it
pub number_new : {A : Type 0} (k : ℕ) (f : A → ℕ) (keys : List ℕ) (xs : List A) → keys ≡ map f xs → position (λ (x : A). nat_eq (f x) k) xs ≡ None → position (nat_eq k) keys ≡ None
number_new k f keys xs numbers none = ap (position (nat_eq k)) numbers ∙ position_number k f xs ∙ none

-- something stands at each place within a list
pub there_is : {A : Type 0} (xs : List A) (i : ℕ) → i < length xs → (x : A) × (slice_get xs i ≡ Some x)
there_is [] i within = absurd (omega (arith, within))
there_is (x ∷ xs) i within = (get_or (x ∷ xs) i x, slice_get-get_or (x ∷ xs) i x within)
