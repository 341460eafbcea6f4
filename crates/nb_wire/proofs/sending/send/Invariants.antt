use Rattle.std.proofs.Common.{◌-◌, ◌≤◌, length, take}
use Rattle.std.specs.Io.KnownBytes.{Appends}
use Rattle.nb_wire.specs.Sent.{OnlyWrites}
use Rattle.nb_wire.proofs.sending.send.Given as goal

-- what was sent so far are the bytes up to here
abbrev pub invariant-sending : goal.invariant-sending
invariant-sending g l = record {
  sent : Appends (g.L.Link.seen l.fn.link).sent (g.L.Link.seen l.link).sent (take l.at l.bytes);
  only : OnlyWrites (g.L.Link.seen l.fn.link) (g.L.Link.seen l.link);
  within : l.at ≤ length l.bytes;
}

abbrev pub decreases-sending : goal.decreases-sending
decreases-sending g l = length l.bytes - l.at
