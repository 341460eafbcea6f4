use Rattle.nb_port.proofs.Stops.{image_left}
use Rattle.nb_port.proofs.laws.filled_is_allowed.Goals as goal

pub returns : goal.returns
returns c start steps fill = image_left fill start steps
