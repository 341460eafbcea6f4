use Rattle.nb_units.proofs.FrameLaws.{part_is_partial}
use Rattle.nb_units.proofs.frames.part_is_partial.Goals as goal

pub returns : goal.returns
returns c = part_is_partial
