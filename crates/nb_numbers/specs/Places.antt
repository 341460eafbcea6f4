-- For invariants and the contracts of private functions alone: where numbers stand in a list, as a map has it.
use Rattle.std.specs.Prelude.{◌≡◌, ℕ, List, nat_eq, position}
use Rattle.std.specs.Ordering.{nat_cmp}
use Rattle.std.specs.BTreeMap.{is_at}
use Rattle.std.specs.Map.{lookup}

-- a map with these entries has the first place of each number of the list, and no other number
pub record AreFound (entries : List (ℕ × ℕ)) (numbers : List ℕ) : Type 0 where
  pub each : (n : ℕ) → lookup (is_at (nat_cmp n)) entries ≡ position (nat_eq n) numbers
