use Rattle.std.proofs.Common.{◌≡◌, ◌≤◌, length}
use Rattle.bench.proofs.framing.stream_of.Given as goal

-- a kind that a frame may have, and a body of the size that was asked for
abbrev pub invariant-writing : goal.invariant-writing
invariant-writing l = record { least : 1 ≤ l.kind; most : l.kind ≤ 16; body : length l.body.items ≡ l.fn.size }
