use Rattle.std.proofs.Common.{◌≡◌, ◌++◌, ◌*◌, ◌+◌, length}
use Rattle.nb_groups.specs.Groups.{groups_in}
use Rattle.nb_groups.proofs.groups.Groups.read.Given as goal

-- the numbers so far and those of the rest are all, and each had four bytes
abbrev pub invariant-loop-rest : goal.invariant-loop-rest
invariant-loop-rest l = record {
  all : l.numbers ++ groups_in l.rest ≡ groups_in l.text;
  each : 4 * length l.numbers + length l.rest ≡ length l.text;
}

-- the rest gets shorter
abbrev pub decreases-loop-rest : goal.decreases-loop-rest
decreases-loop-rest l = length l.rest
