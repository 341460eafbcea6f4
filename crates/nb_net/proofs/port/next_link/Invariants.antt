-- Each turn so far raised the count, and asked at most once.
use Rattle.std.proofs.Common.{◌≡◌, ◌≤◌, ◌+◌, min}
use Rattle.nb_port.specs.Faults.{last_count}
use Rattle.nb_net.proofs.port.next_link.Given as goal

abbrev pub invariant-loop : goal.invariant-loop
invariant-loop g l = record {
  grows : l.initial.faults ≤ l.faults;
  each : min (l.initial.faults + l.counter) last_count ≤ l.faults;
  listens : g.A.Listener.listens l.listener ≡ g.A.Listener.listens l.initial.listener;
  asked : g.A.Listener.asked l.listener ≤ g.A.Listener.asked l.initial.listener + l.counter;
}
