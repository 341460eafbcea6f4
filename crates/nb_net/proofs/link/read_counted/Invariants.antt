-- Each turn so far raised the count, and took nothing.
use Rattle.std.proofs.Common.{◌<◌, ◌≤◌, ◌+◌, ◌≡◌, min}
use Rattle.std.specs.Io.KnownBytes.{Keeps}
use Rattle.nb_port.specs.Faults.{last_count}
use Rattle.nb_net.specs.Socket.{StaysSet}
use Rattle.nb_net.proofs.link.read_counted.Given as goal

abbrev pub invariant-loop : goal.invariant-loop
invariant-loop g l = record {
  grows : l.initial.faults ≤ l.faults;
  each : min (l.initial.faults + l.counter) last_count ≤ l.faults;
  left : Keeps (g.S.Socket.left l.initial.socket) (g.S.Socket.left l.socket);
  sent : g.S.Socket.sent l.socket ≡ g.S.Socket.sent l.initial.socket;
  moment : (g.S.Socket.times l.socket).moment ≡ (g.S.Socket.times l.initial.socket).moment;
  until : 0 < l.counter → (g.S.Socket.times l.socket).until ≡ l.until;
  set : StaysSet g.S.Socket.settings l.initial.socket l.socket;
}
