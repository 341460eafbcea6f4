-- Bytes that a mark divides.
use Rattle.std.proofs.Common.{◌≡◌, ℕ, zero, suc, ◌<◌, Bool, true, false, List, [], ◌∷◌, length, take, drop, refl, sym, ap, ◌∙◌, arith, cond}
use Rattle.std.specs.Prelude.{nat_eq, slice_index}
use Rattle.memchr.specs.Find.{Nowhere, NoneBefore, Passes, is_byte}
use Rattle.nb_script.specs.Words.{parts, onto_first}

-- the mark is at none of the places below this one
abbrev pub NoneBelow : ℕ → List ℕ → ℕ → Type 0
NoneBelow mark bytes n = (k : ℕ) → k < n → ¬ (nat_eq (slice_index bytes k) mark ≡ true)

onto_apart : (b : ℕ) (p part : List ℕ) (more rest : List (List ℕ)) → p ∷ rest ≡ part ∷ more → onto_first b (part ∷ more) ≡ (b ∷ p) ∷ rest
onto_apart b p part more rest e = sym (ap (onto_first b) e)

-- bytes up to the first mark are the first part
pub first_part : (mark : ℕ) (bytes : List ℕ) (i : ℕ) → i < length bytes → NoneBelow mark bytes i → nat_eq (slice_index bytes i) mark ≡ true
    → parts mark bytes ≡ take i bytes ∷ parts mark (drop (suc i) bytes)
unfolding parts
first_part mark [] i within none is = absurd (omega (arith, within))
first_part mark (b ∷ bytes) zero within none is = ap (λ (t : Bool). cond t ([] ∷ parts mark bytes) (onto_first b (parts mark bytes))) is
first_part mark (b ∷ bytes) (suc i) within none is =
    let inner = first_part mark bytes i (omega (arith, within)) (λ k h. none (suc k) (omega (arith, h))) is in
    by (nat_eq b mark) refl inner
  where
    by : (t : Bool) → nat_eq b mark ≡ t → parts mark bytes ≡ take i bytes ∷ parts mark (drop (suc i) bytes)
        → parts mark (b ∷ bytes) ≡ (b ∷ take i bytes) ∷ parts mark (drop (suc i) bytes)
    by true e inner = absurd (none 0 (omega arith) e)
    by false e inner = ap (λ (t : Bool). cond t ([] ∷ parts mark bytes) (onto_first b (parts mark bytes))) e ∙ ap (onto_first b) inner

-- bytes without a mark are one part
pub one_part : (mark : ℕ) (bytes : List ℕ) → NoneBelow mark bytes (length bytes) → parts mark bytes ≡ bytes ∷ []
unfolding parts
one_part mark [] none = refl
one_part mark (b ∷ bytes) none =
    let inner = one_part mark bytes (λ k h. none (suc k) (omega (arith, h))) in
    by (nat_eq b mark) refl inner
  where
    by : (t : Bool) → nat_eq b mark ≡ t → parts mark bytes ≡ bytes ∷ [] → parts mark (b ∷ bytes) ≡ (b ∷ bytes) ∷ []
    by true e inner = absurd (none 0 (omega arith) e)
    by false e inner = ap (λ (t : Bool). cond t ([] ∷ parts mark bytes) (onto_first b (parts mark bytes))) e ∙ ap (onto_first b) inner

-- there is a part
pub record SomePart (mark : ℕ) (bytes : List ℕ) : Type 0 where
  pub first : List ℕ
  pub more : List (List ℕ)
  pub is : parts mark bytes ≡ first ∷ more

pub some_part : (mark : ℕ) (bytes : List ℕ) → SomePart mark bytes
unfolding parts
some_part mark [] = record { first = []; more = []; is = refl }
some_part mark (b ∷ bytes) = by (nat_eq b mark) refl (some_part mark bytes)
  where
    by : (t : Bool) → nat_eq b mark ≡ t → SomePart mark bytes → SomePart mark (b ∷ bytes)
    by true e rest = record { first = []; more = parts mark bytes; is = ap (λ (t : Bool). cond t ([] ∷ parts mark bytes) (onto_first b (parts mark bytes))) e }
    by false e rest = record {
      first = b ∷ rest.first;
      more = rest.more;
      is = ap (λ (t : Bool). cond t ([] ∷ parts mark bytes) (onto_first b (parts mark bytes))) e ∙ ap (onto_first b) rest.is;
    }

-- where the search found a mark, and where it found none
pub found_at : (mark : ℕ) (bytes part behind rest : List ℕ) (i : ℕ) → NoneBefore (Passes (is_byte mark) bytes) 0 (length bytes) i × Passes (is_byte mark) bytes i
    → part ≡ take i bytes → behind ≡ drop i bytes → rest ≡ drop 1 behind → parts mark bytes ≡ part ∷ parts mark rest
found_at mark bytes part behind rest i found front back next =
    first_part mark bytes i found.0.high (λ k h. found.0.before k (omega arith) h) found.1
    ∙ rw (front, next, back, drop_one bytes i) refl
  where
    drop_one : (xs : List ℕ) (n : ℕ) → drop 1 (drop n xs) ≡ drop (suc n) xs
    drop_one [] zero = refl
    drop_one [] (suc n) = refl
    drop_one (x ∷ xs) zero = refl
    drop_one (x ∷ xs) (suc n) = drop_one xs n

pub not_found : (mark : ℕ) (bytes : List ℕ) → Nowhere (Passes (is_byte mark) bytes) 0 (length bytes) → parts mark bytes ≡ bytes ∷ []
not_found mark bytes nowhere = one_part mark bytes (λ k h. nowhere k (omega arith) h)
