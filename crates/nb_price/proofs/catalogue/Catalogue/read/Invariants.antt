use Rattle.std.proofs.Common.{length}
use Rattle.nb_price.proofs.Reading.{SoFar}
use Rattle.nb_price.proofs.catalogue.Catalogue.read.Given as goal

-- the items so far were read
abbrev pub invariant-items : goal.invariant-items
invariant-items l = SoFar l.fn.bytes l.catalogue l.rest l.item

-- the rest gets shorter
abbrev pub decreases-items : goal.decreases-items
decreases-items l = length l.rest
