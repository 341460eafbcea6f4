-- Counts of faults. A count never falls, and has risen wherever a call answers that it failed.
use Rattle.std.specs.Prelude.{ℕ, ◌≤◌, ◌+◌, ◌-◌, ◌^◌, List, [], ◌∷◌, min}

-- the last value of a count, at which it stays
abbrev pub last_count : ℕ
last_count = 2 ^ 64 - 1

-- one more: a count stays at its last value
abbrev pub one_more : ℕ → ℕ
one_more n = min (n + 1) last_count

-- a count rose; at its last value it counts as risen
abbrev pub Rose : ℕ → ℕ → Type 0
Rose old new = one_more old ≤ new

-- a failure that was told: the counts at its start and at its end
pub record Failure : Type 0 where
  pub before : ℕ
  pub after : ℕ

-- the failures came one after another between two counts, and in each the count rose
abbrev pub Backed : ℕ → List Failure → ℕ → Type 0
Backed from [] to = from ≤ to
Backed from (failure ∷ more) to = (from ≤ failure.before) × Rose failure.before failure.after × Backed failure.after more to
