-- Chains of conditions.
use Rattle.std.proofs.Common.{◌≡◌, ℕ, Bool, true, false, List, [], ◌∷◌, Option, None, Some, refl, ap}
use Rattle.std.specs.List.{position, slice_get}
use Rattle.std.specs.Option.{is_some, is_none}
use Rattle.std.proofs.lemmas.List.Quantifiers.{position-Some}
use Rattle.std.proofs.lemmas.Option.{slice_get-get_or}
use Rattle.nb_world.specs.Steps.{◌>>=◌, where_so}

-- what a chain that led to a value went through
pub inside : {A B : Type 0} (r : Option A) (f : A → Option B) (b : B) → (r >>= f) ≡ Some b → (x : A) × (r ≡ Some x) × (f x ≡ Some b)
inside (Some x) f b is = (x, refl, is)
inside None f b is = absurd cc

pub some_inside : {A B : Type 0} (r : Option A) (f : A → Option B) → is_some (r >>= f) ≡ true → (x : A) × (r ≡ Some x) × (is_some (f x) ≡ true)
some_inside (Some x) f is = (x, refl, is)
some_inside None f is = absurd cc

pub link : {A B : Type 0} (r : Option A) (f : A → Option B) (x : A) → r ≡ Some x → (r >>= f) ≡ f x
link r f x is = ap (λ o. o >>= f) is

pub holds : (b : Bool) (u : Unit {0}) → where_so b ≡ Some u → b ≡ true
holds true u is = refl
holds false u is = absurd cc

pub so : (b : Bool) → b ≡ true → where_so b ≡ Some tt
so b is = ap where_so is

pub value : {A : Type 0} (o : Option A) → is_some o ≡ true → (x : A) × (o ≡ Some x)
value (Some x) is = (x, refl)
value None is = absurd cc

pub no_value : {A : Type 0} (o : Option A) → is_none o ≡ true → o ≡ None
no_value None is = refl
no_value (Some x) is = absurd cc

pub same_some : {A : Type 0} (x y : A) → Some x ≡ Some y → x ≡ y
same_some x y is = cc

-- an element stands at the first place that passes
pub stands_there : {A : Type 0} (test : A → Bool) (xs : List A) (i : ℕ) → position test xs ≡ Some i → (x : A) × (slice_get xs i ≡ Some x)
stands_there test [] i is = absurd cc
stands_there test (x ∷ xs) i is =
    let found = position-Some test (x ∷ xs) i x is in
    (_, slice_get-get_or (x ∷ xs) i x found.0)
