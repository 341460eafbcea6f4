use Rattle.nb_standby.proofs.Runs.{follow_is_deliveries}
use Rattle.nb_standby.proofs.laws.follow_is_deliveries.Goals as goal

pub returns : goal.returns
returns c = follow_is_deliveries
