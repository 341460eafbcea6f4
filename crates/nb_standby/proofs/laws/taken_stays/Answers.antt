use Rattle.nb_standby.proofs.Fronts.{taken_stays}
use Rattle.nb_standby.proofs.laws.taken_stays.Goals as goal

pub returns : goal.returns
returns c = taken_stays
