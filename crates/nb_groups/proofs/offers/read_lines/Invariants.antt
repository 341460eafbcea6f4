use Rattle.std.proofs.Common.{length}
use Rattle.nb_groups.proofs.Reading.{SoFar}
use Rattle.nb_groups.proofs.offers.read_lines.Given as goal

-- the lines so far were read
abbrev pub invariant-lines : goal.invariant-lines
invariant-lines l = SoFar l.fn.bytes l.offers l.rest l.number

-- the rest gets shorter
abbrev pub decreases-lines : goal.decreases-lines
decreases-lines l = length l.rest
