use Rattle.std.proofs.Common.{◌-◌, ◌≤◌, length, take}
use Rattle.std.specs.Io.KnownBytes.{Appends}
use Rattle.nb_wire.specs.Sent.{OnlyWrites}
use Rattle.nb_session.proofs.sending.send_each.Given as goal

-- what was sent so far are the replies up to here
abbrev pub invariant-sending : goal.invariant-sending
invariant-sending g l = record {
  sent : Appends (g.L.Link.seen l.fn.link).sent (g.L.Link.seen l.link).sent (take l.at l.replies);
  only : OnlyWrites (g.L.Link.seen l.fn.link) (g.L.Link.seen l.link);
  within : l.at ≤ length l.replies;
}

abbrev pub decreases-sending : goal.decreases-sending
decreases-sending g l = length l.replies - l.at
