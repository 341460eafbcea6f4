use Rattle.std.proofs.Common.{◌-◌, ◌≤◌, length}
use Rattle.nb_desk.proofs.handed.count_from.Given as goal

abbrev pub invariant-loop-count : goal.invariant-loop-count
invariant-loop-count g l = l.count ≤ length l.vault.lines

abbrev pub decreases-loop-count : goal.decreases-loop-count
decreases-loop-count g l = length l.vault.lines - l.count
