-- Each turn so far raised the count, and sent nothing.
use Rattle.std.proofs.Common.{◌≤◌, ◌+◌, ◌≡◌, min}
use Rattle.std.specs.Io.KnownBytes.{Keeps}
use Rattle.nb_port.specs.Faults.{last_count}
use Rattle.nb_net.specs.Socket.{StaysSet}
use Rattle.nb_net.proofs.link.write_counted.Given as goal

abbrev pub invariant-loop : goal.invariant-loop
invariant-loop g l = record {
  grows : l.initial.faults ≤ l.faults;
  each : min (l.initial.faults + l.counter) last_count ≤ l.faults;
  sent : Keeps (g.S.Socket.sent l.initial.socket) (g.S.Socket.sent l.socket);
  left : g.S.Socket.left l.socket ≡ g.S.Socket.left l.initial.socket;
  times : g.S.Socket.times l.socket ≡ g.S.Socket.times l.initial.socket;
  set : StaysSet g.S.Socket.settings l.initial.socket l.socket;
}
