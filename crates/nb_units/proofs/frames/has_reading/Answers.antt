use Rattle.nb_units.proofs.FrameLaws.{has_reading}
use Rattle.nb_units.proofs.frames.has_reading.Goals as goal

pub returns : goal.returns
returns c = has_reading
