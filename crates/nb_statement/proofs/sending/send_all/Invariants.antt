use Rattle.std.proofs.Common.{◌-◌, ◌≤◌, length, take}
use Rattle.std.specs.Io.KnownBytes.{Appends}
use Rattle.nb_statement.proofs.sending.send_all.Given as goal

-- what was sent so far is the text up to here
abbrev pub invariant-sending : goal.invariant-sending
invariant-sending g l = record {
  sent : Appends (g.K.Sink.sent l.fn.sink) (g.K.Sink.sent l.sink) (take l.at l.text);
  count : g.K.Sink.faults l.fn.sink ≤ g.K.Sink.faults l.sink;
  within : l.at ≤ length l.text;
}

abbrev pub decreases-sending : goal.decreases-sending
decreases-sending g l = length l.text - l.at
