use Rattle.std.proofs.Common.{◌<◌, ◌^◌, length}
use Rattle.bench.proofs.sealing.sealed.Given as goal

abbrev pub invariant-loop : goal.invariant-loop
invariant-loop l = length l.text.items < 2 ^ 32
