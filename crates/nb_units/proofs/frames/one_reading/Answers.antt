use Rattle.nb_units.proofs.FrameLaws.{one_reading}
use Rattle.nb_units.proofs.frames.one_reading.Goals as goal

pub returns : goal.returns
returns c = one_reading
