use Rattle.std.proofs.Common.{◌-◌, ◌≤◌, length, take}
use Rattle.std.specs.Io.KnownBytes.{Appends}
use Rattle.nb_buy.proofs.writing.write_out.Given as goal

-- what was written so far are the bytes up to here
abbrev pub invariant-writing : goal.invariant-writing
invariant-writing g l = record {
  sent : Appends (g.K.Sink.sent l.fn.sink) (g.K.Sink.sent l.sink) (take l.at l.bytes);
  count : g.K.Sink.faults l.fn.sink ≤ g.K.Sink.faults l.sink;
  within : l.at ≤ length l.bytes;
}

abbrev pub decreases-writing : goal.decreases-writing
decreases-writing g l = length l.bytes - l.at
