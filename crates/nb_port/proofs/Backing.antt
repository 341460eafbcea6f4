-- Failures between counts: between wider ones too, and one chain behind another.
use Rattle.std.proofs.Common.{ℕ, ◌≤◌, List, [], ◌∷◌, ◌++◌, min, arith}
use Rattle.nb_port.specs.Faults.{Failure, Backed, last_count}

-- from an earlier count
pub backed_earlier : (failures : List Failure) (from mid to : ℕ) → from ≤ mid → Backed mid failures to → Backed from failures to
backed_earlier [] from mid to le is = omega (arith, le, is)
backed_earlier (failure ∷ more) from mid to le is = (omega (arith, le, is.0), is.1, is.2)

-- to a later count
pub backed_later : (failures : List Failure) (from to later : ℕ) → Backed from failures to → to ≤ later → Backed from failures later
backed_later [] from to later is le = omega (arith, is, le)
backed_later (failure ∷ more) from to later is le = (is.0, is.1, backed_later more failure.after to later is.2 le)

-- one chain behind another
pub backed_append : (first second : List Failure) (from mid to : ℕ) → Backed from first mid → Backed mid second to → Backed from (first ++ second) to
backed_append [] second from mid to is behind = backed_earlier second from mid to is behind
backed_append (failure ∷ more) second from mid to is behind = (is.0, is.1, backed_append more second failure.after mid to is.2 behind)

-- the last count is not below the first, but for its end
pub backed_grows : (failures : List Failure) (from to : ℕ) → Backed from failures to → min from last_count ≤ to
backed_grows [] from to is = omega (arith, is)
backed_grows (failure ∷ more) from to is = omega (arith, is.0, is.1, backed_grows more failure.after to is.2)
