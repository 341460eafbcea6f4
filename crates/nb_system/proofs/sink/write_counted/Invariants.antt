-- Each turn so far raised the count, and sent nothing.
use Rattle.std.proofs.Common.{◌≤◌, ◌+◌, min}
use Rattle.std.specs.Io.KnownBytes.{Keeps}
use Rattle.nb_port.specs.Faults.{last_count}
use Rattle.nb_system.proofs.sink.write_counted.Given as goal

abbrev pub invariant-loop : goal.invariant-loop
invariant-loop g l = record {
  grows : l.initial.faults ≤ l.faults;
  each : min (l.initial.faults + l.counter) last_count ≤ l.faults;
  sent : Keeps (g.W.Write.contents l.initial.to) (g.W.Write.contents l.to);
}
