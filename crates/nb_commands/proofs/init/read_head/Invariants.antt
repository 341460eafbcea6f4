use Rattle.std.proofs.Common.{◌+◌, ◌-◌, ◌≤◌, ◌≡◌, length, take}
use Rattle.std.specs.Io.KnownBytes.{Consumes}
use Rattle.nb_units.specs.declared.limits.TheConstants.{HEAD}
use Rattle.nb_commands.proofs.init.read_head.Given as goal

-- what was taken so far are the first bytes
abbrev pub invariant-reading : goal.invariant-reading
invariant-reading g l = record {
  took : Consumes (g.S.Source.left l.fn.source) (g.S.Source.left l.source) (take l.at l.bytes);
  count : g.S.Source.faults l.fn.source ≤ g.S.Source.faults l.source;
  within : l.at ≤ HEAD + 1;
  long : length l.bytes ≡ HEAD + 1;
}

abbrev pub decreases-reading : goal.decreases-reading
decreases-reading g l = HEAD + 1 - l.at
