use Rattle.nb_units.proofs.FrameLaws.{longest_in}
use Rattle.nb_units.proofs.frames.longest_reading.Goals as goal

pub returns : goal.returns
returns c = longest_in
