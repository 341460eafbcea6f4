use Rattle.std.proofs.Common.{◌*◌, ◌≤◌, length}
use Rattle.bench.proofs.framing.sum_of.Given as goal

-- a frame has at most 1,048,584 bytes, and the next piece begins within the stream
abbrev pub invariant-reading : goal.invariant-reading
invariant-reading l = record { taken : l.frames.taken ≤ 1048584 * l.given; within : l.at ≤ length l.stream; few : l.given ≤ l.times }
