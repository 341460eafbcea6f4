-- For invariants and the contracts of private functions alone: pairs in order, beside a map that has the first value of each key.
use Rattle.std.specs.Prelude.{◌≡◌, Bool, List}
use Rattle.std.specs.declared.cmp.Ordering.{Ordering}
use Rattle.std.specs.BTreeMap.{is_at}
use Rattle.std.specs.Map.{lookup}

-- a map with these entries, whose keys are compared by the one, has for each key what the pairs have for it first, whose keys are compared by the other,
-- and no other key
pub record AreFirsts {K X : Type 0} (cmp : K → K → Ordering) (eq : K → K → Bool) (entries pairs : List (K × X)) : Type 0 where
  pub each : (k : K) → lookup (is_at (cmp k)) entries ≡ lookup (eq k) pairs
