-- What is no more in the room was dropped; no read of these failed, or waited otherwise.
use Rattle.std.proofs.Common.{◌≤◌, ◌<◌, ◌-◌, ◌≡◌}
use Rattle.nb_net.specs.Socket.{StaysSet}
use Rattle.nb_net.specs.Adapters.{Took}
use Rattle.nb_net.specs.declared.limits.TheConstants.{MAX_DROPPED}
use Rattle.nb_net.proofs.link.drop_rest.Given as goal

abbrev pub invariant-dropping : goal.invariant-dropping
invariant-dropping g l = record {
  few : l.room ≤ MAX_DROPPED;
  took : Took (g.S.Socket.left l.initial.socket) (g.S.Socket.left l.socket) (MAX_DROPPED - l.room);
  grows : l.initial.faults ≤ l.faults;
  sent : g.S.Socket.sent l.socket ≡ g.S.Socket.sent l.initial.socket;
  moment : (g.S.Socket.times l.socket).moment ≡ (g.S.Socket.times l.initial.socket).moment;
  until : l.room < MAX_DROPPED → (g.S.Socket.times l.socket).until ≡ l.until;
  set : StaysSet g.S.Socket.settings l.initial.socket l.socket;
}

abbrev pub decreases-dropping : goal.decreases-dropping
decreases-dropping g l = l.room
