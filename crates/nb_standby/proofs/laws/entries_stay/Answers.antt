use Rattle.nb_standby.proofs.Fronts.{entries_stay}
use Rattle.nb_standby.proofs.laws.entries_stay.Goals as goal

pub returns : goal.returns
returns c = entries_stay
