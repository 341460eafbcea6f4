-- Lists, by their front and their back.
use Rattle.std.proofs.Common.{◌≡◌, List, [], ◌∷◌, ◌++◌, sym, ◌∙◌, append_assoc}
use Rattle.std.specs.Prelude.{map}
use Rattle.std.specs.List.{AllByRecursion}

pub all_append : {A : Type 0} (P : A → Type 0) (xs ys : List A) → AllByRecursion P xs → AllByRecursion P ys → AllByRecursion P (xs ++ ys)
all_append P [] ys first second = second
all_append P (x ∷ xs) ys first second = (first.0, all_append P xs ys first.1 second)

pub all_parts : {A : Type 0} (P : A → Type 0) (xs ys : List A) → AllByRecursion P (xs ++ ys) → AllByRecursion P xs × AllByRecursion P ys
all_parts P [] ys all = (tt, all)
all_parts P (x ∷ xs) ys all = (let rest = all_parts P xs ys all.1 in ((all.0, rest.0), rest.1))

pub all_map : {A B : Type 0} (P : B → Type 0) (f : A → B) (xs : List A) → ((x : A) → P (f x)) → AllByRecursion P (map f xs)
all_map P f [] each = tt
all_map P f (x ∷ xs) each = (each x, all_map P f xs each)

pub all_weaker : {A : Type 0} (P Q : A → Type 0) (xs : List A) → ((x : A) → P x → Q x) → AllByRecursion P xs → AllByRecursion Q xs
all_weaker P Q [] step all = tt
all_weaker P Q (x ∷ xs) step all = (step x all.0, all_weaker P Q xs step all.1)

-- one element among others
pub all_at : {A : Type 0} (P : A → Type 0) (xs : List A) (x : A) (ys : List A) → AllByRecursion P (xs ++ x ∷ ys) → P x
all_at P [] x ys all = all.0
all_at P (y ∷ xs) x ys all = all_at P xs x ys all.1

-- what holds of each element of a whole, wherever it stands, holds of each of its back
pub all_back : {A : Type 0} (P : A → Type 0) (whole front back : List A) → whole ≡ front ++ back
    → ((before : List A) (x : A) (after : List A) → whole ≡ before ++ x ∷ after → P x) → AllByRecursion P back
all_back P whole front [] is each = tt
all_back P whole front (x ∷ back) is each =
    (each front x back is, all_back P whole (front ++ x ∷ []) back (is ∙ sym (append_assoc front (x ∷ []) back)) each)
