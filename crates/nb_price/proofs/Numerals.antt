-- Numbers before their marks.
use Rattle.std.proofs.Common.{◌≡◌, ℕ, ◌<◌, ◌≤◌, ◌^◌, length, ⊎_elim, arith}
use Rattle.std.specs.Fmt.{decimal}
use Rattle.std.proofs.lemmas.Fmt.{decimal_injective, digits_decimal, length-decimal-le}
use Rattle.std.proofs.lemmas.Str.Parse.{not_in_digits}
use Rattle.nb_units.proofs.Numerals.{digits}
use Rattle.nb_price.specs.Fields.{IsFree, IsNoDigit}

-- two numbers that are written the same are one
pub one_number : (m n : ℕ) → m < 2 ^ 32 → n < 2 ^ 32 → decimal m ≡ decimal n → m ≡ n
one_number m n p q e = decimal_injective m n (omega (arith, p)) (omega (arith, q)) e

-- what is written of a number has no mark in it, and at most ten digits
pub free_decimal : (n mark : ℕ) → n < 2 ^ 32 → IsNoDigit mark → IsFree mark (decimal n)
free_decimal n mark small apart = not_in_digits digits (decimal n) mark (digits_decimal digits n (omega (arith, small))) (λ is. ⊎_elim (λ low. absurd (omega (arith, low, is))) (λ high. absurd (omega (arith, high, is))) apart)

pub short_decimal : (n : ℕ) → n < 2 ^ 32 → length (decimal n) ≤ 10
short_decimal n small = length-decimal-le 10 n (omega arith) (omega (arith, small)) (omega (arith, small))
