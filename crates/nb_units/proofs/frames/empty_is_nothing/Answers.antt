use Rattle.nb_units.proofs.HeaderLaws.{empty_is}
use Rattle.nb_units.proofs.frames.empty_is_nothing.Goals as goal

pub returns : goal.returns
returns c = empty_is
