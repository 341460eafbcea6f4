use Rattle.std.proofs.Common.{◌≡◌, length}
use Rattle.bench.proofs.framing.copied.Given as goal

abbrev pub invariant-copying : goal.invariant-copying
invariant-copying l = length l.from.items ≡ length l.to.items
