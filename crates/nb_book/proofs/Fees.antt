-- The fee of a price.
use Rattle.std.proofs.Common.{◌≡◌, ℕ, ◌+◌, ◌-◌, ◌*◌, ◌<◌, ◌≤◌, ◌^◌, arith}
use Rattle.std.proofs.lemmas.Nat.{mul-le, div_below}
use Rattle.nb_units.specs.declared.ids.Price.{Price}
use Rattle.nb_units.specs.declared.limits.TheConstants.{MAX_RATE}
use Rattle.nb_book.specs.declared.limits.TheConstants.{MAX_PRICE}
use Rattle.nb_book.specs.Money.{fee_at}
use Rattle.nb_book.specs.Legal.{IsSomeFee}

-- a legal price times a rate fits 8 bytes
pub product_fits : (price rate : ℕ) → price ≤ MAX_PRICE → rate ≤ MAX_RATE → price * rate < 2 ^ 64
product_fits price rate most at_most = omega (arith, mul-le price rate MAX_PRICE MAX_RATE most at_most)

-- a fee is at most its price
pub fee_within_price : (rate : ℕ) (price : Price) → rate ≤ MAX_RATE → fee_at rate price ≤ price.0
fee_within_price rate price most =
    let product : price.0 * rate ≤ price.0 * MAX_RATE = mul-le price.0 rate price.0 MAX_RATE (omega arith) most in
    omega (arith, div_below (price.0 * rate) 1000 (price.0 + 1) (omega arith) (omega (arith, product)))

-- and the rest of the price with it is the price
pub rest_and_fee : (rate : ℕ) (price : Price) → rate ≤ MAX_RATE → (price.0 - fee_at rate price) + fee_at rate price ≡ price.0
rest_and_fee rate price most = omega (arith, fee_within_price rate price most)

-- so is that of a legal entry
pub fee_within : (price : Price) (fee : ℕ) → IsSomeFee price fee → fee ≤ price.0
fee_within price fee is = omega (arith, is.2, fee_within_price is.0 price is.1)
