use Rattle.nb_units.proofs.HeaderLaws.{partial_is}
use Rattle.nb_units.proofs.frames.partial_is_part.Goals as goal

pub returns : goal.returns
returns c = partial_is
