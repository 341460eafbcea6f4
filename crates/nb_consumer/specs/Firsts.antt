-- For invariants and the contracts of private functions alone: which purchase was ordered first with each identifier, as a map has it.
use Rattle.std.specs.Prelude.{ℕ, List, nat_eq}
use Rattle.std.specs.Ordering.{nat_cmp}
use Rattle.std.specs.Cmp.Lexicographic.{pointwise, slice_cmp}
use Rattle.nb_numbers.specs.Beside.{AreFirsts}

-- a map with these entries has for each identifier what the orders have for it, and no other identifier
abbrev pub AreFirstOrders : List (List ℕ × ℕ) → List (List ℕ × ℕ) → Type 0
AreFirstOrders entries orders = AreFirsts (slice_cmp nat_cmp) (pointwise nat_eq) entries orders
