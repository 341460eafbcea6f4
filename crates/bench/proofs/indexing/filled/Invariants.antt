use Rattle.std.proofs.Common.{◌≡◌, ◌*◌, ◌≤◌, length}
use Rattle.bench.proofs.indexing.filled.Given as goal

-- no more was put than there was time for
abbrev pub invariant-loop-number : goal.invariant-loop-number
invariant-loop-number l = record { puts : length l.index.puts ≤ l.number; slots : l.index.shape.slots ≡ 2 * l.size }
