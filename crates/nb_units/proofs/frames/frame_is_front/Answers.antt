use Rattle.nb_units.proofs.FrameLaws.{frame_is}
use Rattle.nb_units.proofs.frames.frame_is_front.Goals as goal

pub returns : goal.returns
returns c = frame_is
