-- What is told of merchants.
use Rattle.std.specs.Prelude.{ℕ}
use Rattle.nb_merchant.specs.Shop.{Shop}

-- the number of a merchant
abbrev pub shop_number : Shop → ℕ
shop_number s = s.stall.id.0
