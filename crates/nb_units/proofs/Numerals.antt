-- A word that was parsed and has no plus and no leading zero is what is written of the number.
use Rattle.std.proofs.Common.{◌≡◌, ℕ, zero, suc, ◌<◌, ◌^◌, List, Ok, Err, inl, inr, ⊎_elim, refl, sym, ap, subst, ◌∙◌, arith}
use Rattle.std.specs.Prelude.{Result}
use Rattle.std.specs.Fmt.{decimal}
use Rattle.std.specs.Str.Parse.{AllDigits, digits_value, ParsesUnsigned}
use Rattle.std.proofs.lemmas.Fmt.{decimal-digits_value, decimal_digit, decimal_nonempty, first_decimal, IsAscii-decimal}
use Rattle.std.proofs.lemmas.Result.{OkIff-at_ok}
use Rattle.std.proofs.lemmas.Str.{IsUtf8-from_ascii}
use Rattle.std.specs.Str.{IsUtf8}
use Rattle.std.proofs.lemmas.Str.Parse.{IsNumeralModel, numerals_by_value, parse_plain, tells_digits}
use Rattle.nb_units.specs.Numerals.{IsPlain}

pub digits : IsNumeralModel (AllDigits 10) (digits_value 10)
digits = numerals_by_value (AllDigits 10) tells_digits

-- what is written of a number is plain
plain_decimal : (n : ℕ) → n < 2 ^ 64 → IsPlain (decimal n)
plain_decimal zero small = subst IsPlain (sym (decimal_digit 0 (omega arith))) (omega arith, omega arith, inr refl)
plain_decimal (suc n) small =
    let first = first_decimal (suc n) (omega arith) (omega (arith, small)) in
    (decimal_nonempty (suc n) (omega (arith, small)), λ e. absurd (omega (arith, first, e)), inl (λ e. absurd (omega (arith, first, e))))

pub plain : (word : List ℕ) (n : ℕ) → n < 2 ^ 64 → word ≡ decimal n → IsPlain word
plain word n small is = subst IsPlain (sym is) (plain_decimal n small)

-- what is written of a number is text
pub is_text : (word : List ℕ) (n : ℕ) → n < 2 ^ 64 → word ≡ decimal n → IsUtf8 word
is_text word n small is = subst IsUtf8 (sym is) (IsUtf8-from_ascii (decimal n) (IsAscii-decimal n (omega (arith, small))))

-- a plain word that is parsed is what is written of the number
pub parsed : {E : Type 0} (word : List ℕ) (r : Result ℕ E) (n : ℕ) → ParsesUnsigned 64 10 word r → r ≡ Ok n → IsPlain word → word ≡ decimal n
parsed word r n parses is plain =
    let p = OkIff-at_ok r _ (digits_value 10 word) n (parse_plain digits 64 word r parses plain.1) is in
    sym (ap decimal p.1 ∙ decimal-digits_value digits word p.0.0 p.0.1 (λ zero_first. ⊎_elim (λ other. absurd (other zero_first)) (λ one. one) plain.2) (omega (arith, p.0.2)))

-- a result has one value, and no error then
pub one_value : {E : Type 0} (r : Result ℕ E) (m n : ℕ) → r ≡ Ok m → r ≡ Ok n → m ≡ n
one_value {E} r m n first second = ap value (sym first ∙ second)
  where
    value : Result ℕ E → ℕ
    value (Ok x) = x
    value (Err e) = 0

pub no_error : {E : Type 0} (r : Result ℕ E) (e : E) (n : ℕ) → r ≡ Err e → r ≡ Ok n → ⊥
no_error (Ok x) e n first second = cc
no_error (Err x) e n first second = cc
