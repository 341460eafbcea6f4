use Rattle.nb_units.proofs.HeaderLaws.{bad_is}
use Rattle.nb_units.proofs.frames.bad_is_fault.Goals as goal

pub returns : goal.returns
returns c = bad_is
