use Rattle.std.proofs.Common.{length}
use Rattle.nb_groups.proofs.Naming.{SoFar}
use Rattle.nb_groups.proofs.groups.Groups.named.Given as goal

-- the numbers so far were named
abbrev pub invariant-naming : goal.invariant-naming
invariant-naming l = SoFar l.fn.word l.numbers l.rest

-- the rest gets shorter
abbrev pub decreases-naming : goal.decreases-naming
decreases-naming l = length l.rest
