use Rattle.std.proofs.Common.{◌-◌, ◌≤◌, length, take}
use Rattle.std.specs.Io.KnownBytes.{Appends}
use Rattle.nb_batch.proofs.send.send_all.Given as goal

-- what was sent so far is the piece up to here
abbrev pub invariant-sending : goal.invariant-sending
invariant-sending g l = record {
  sent : Appends (g.K.Sink.sent l.fn.sink) (g.K.Sink.sent l.sink) (take l.at l.piece);
  count : g.K.Sink.faults l.fn.sink ≤ g.K.Sink.faults l.sink;
  within : l.at ≤ length l.piece;
}

abbrev pub decreases-sending : goal.decreases-sending
decreases-sending g l = length l.piece - l.at
