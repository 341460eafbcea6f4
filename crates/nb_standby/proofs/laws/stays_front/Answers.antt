use Rattle.nb_standby.proofs.Fronts.{stays_front}
use Rattle.nb_standby.proofs.laws.stays_front.Goals as goal

pub returns : goal.returns
returns c = stays_front
