use Rattle.std.proofs.Common.{◌≡◌, ◌++◌, ◌*◌, length, drop}
use Rattle.nb_groups.specs.Groups.{groups_bytes}
use Rattle.nb_groups.proofs.groups.spelled.Given as goal

-- the bytes so far and those of the groups to come are all, and each has four
abbrev pub invariant-loop-group : goal.invariant-loop-group
invariant-loop-group l = record {
  all : l.bytes ++ groups_bytes (drop l.group-index l.groups) ≡ groups_bytes l.groups;
  each : length l.bytes ≡ 4 * l.group-index;
}
