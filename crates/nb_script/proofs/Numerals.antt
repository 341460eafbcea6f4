-- What a word is as a number.
use Rattle.std.proofs.Common.{◌≡◌, ℕ, ◌<◌, ◌≤◌, ◌^◌, Bool, true, false, List, Option, Some, None, refl, sym, ap, ◌∙◌, arith}
use Rattle.std.specs.Prelude.{nat_le, ◌&&◌, if◌then◌else◌}
use Rattle.std.specs.Fmt.{decimal}
use Rattle.std.specs.Str.{bytes_eq}
use Rattle.std.specs.Str.Parse.{digits_value}
use Rattle.std.proofs.lemmas.Bool.{le-leb, leb-true}
use Rattle.std.proofs.lemmas.Fmt.{decimal_is_IsNumeral}
use Rattle.std.proofs.lemmas.Slice.Eq.{bytes_eq-Decides}
use Rattle.nb_script.specs.Words.{number_in, number_at, word_at}

-- the word is a number's
pub is_number : (word : List ℕ) (n least most : ℕ) → word ≡ decimal n → n < 2 ^ 64 → number_in least most word ≡ (if (nat_le least n && nat_le n most) then Some n else None)
is_number word n least most is small =
    let value : digits_value 10 word ≡ n = ap (digits_value 10) is ∙ (decimal_is_IsNumeral n small).1 in
    let same : bytes_eq word (decimal n) ≡ true = (bytes_eq-Decides word (decimal n)).1 is in
    rw (value, same) refl

-- it is one within the limits
pub within : (words : List (List ℕ)) (k n least most : ℕ) → word_at words k ≡ decimal n → n < 2 ^ 64 → least ≤ n → n ≤ most → Some n ≡ number_at least most words k
unfolding number_at
within words k n least most is small low high = sym (is_number (word_at words k) n least most is small ∙ rw (le-leb least n low, le-leb n most high) refl)

-- it is one below them, above them
pub below : (words : List (List ℕ)) (k n least most : ℕ) → word_at words k ≡ decimal n → n < 2 ^ 64 → n < least → None ≡ number_at least most words k
unfolding number_at
below words k n least most is small low = sym (is_number (word_at words k) n least most is small ∙ by (nat_le least n) (nat_le n most) refl)
  where
    by : (p q : Bool) → nat_le least n ≡ p → (let r : Option ℕ = if (p && q) then Some n else None in r) ≡ None
    by false q e = refl
    by true q e = absurd (omega (arith, leb-true least n e, low))

pub above : (words : List (List ℕ)) (k n least most : ℕ) → word_at words k ≡ decimal n → n < 2 ^ 64 → most < n → None ≡ number_at least most words k
unfolding number_at
above words k n least most is small high = sym (is_number (word_at words k) n least most is small ∙ by (nat_le least n) (nat_le n most) refl)
  where
    by : (p q : Bool) → nat_le n most ≡ q → (let r : Option ℕ = if (p && q) then Some n else None in r) ≡ None
    by true false e = refl
    by false false e = refl
    by p true e = absurd (omega (arith, leb-true n most e, high))

-- it is no number below 2^64
pub no_number : (words : List (List ℕ)) (k least most : ℕ) → most < 2 ^ 64 → ((n : ℕ) → n < 2 ^ 64 → word_at words k ≡ decimal n → ⊥) → None ≡ number_at least most words k
unfolding number_at
no_number words k least most small none = sym (by (bytes_eq word (decimal n)) (nat_le least n) (nat_le n most) refl refl)
  where
    word : List ℕ
    word = word_at words k

    n : ℕ
    n = digits_value 10 word

    by : (t low high : Bool) → bytes_eq word (decimal n) ≡ t → nat_le n most ≡ high → (let r : Option ℕ = if (t && low && high) then Some n else None in r) ≡ None
    by false low high e h = refl
    by true false high e h = refl
    by true true false e h = refl
    by true true true e h = absurd (none n (omega (arith, leb-true n most h, small)) ((bytes_eq-Decides word (decimal n)).0 e))

-- where none was found there is none
pub none_found : (o : Option ℕ) (n : ℕ) → o ≡ None → o ≡ Some n → ⊥
none_found (Some m) n is e = absurd (clash m is)
  where
    clash : (m : ℕ) → ◌≡◌ {A = Option ℕ} (Some m) None → ⊥
    clash m e = cc
none_found None n is e = absurd (clash n e)
  where
    clash : (m : ℕ) → ◌≡◌ {A = Option ℕ} None (Some m) → ⊥
    clash m e = cc
