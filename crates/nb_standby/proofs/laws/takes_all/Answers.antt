use Rattle.nb_standby.proofs.Runs.{takes_all}
use Rattle.nb_standby.proofs.laws.takes_all.Goals as goal

pub returns : goal.returns
returns c = takes_all
