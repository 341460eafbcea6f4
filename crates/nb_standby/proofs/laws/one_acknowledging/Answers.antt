use Rattle.nb_standby.proofs.Runs.{one_acknowledging}
use Rattle.nb_standby.proofs.laws.one_acknowledging.Goals as goal

pub returns : goal.returns
returns c = one_acknowledging
