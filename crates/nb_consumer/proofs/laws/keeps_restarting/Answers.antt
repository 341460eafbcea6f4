use Rattle.nb_consumer.proofs.Restoring.{keeps_restarting}
use Rattle.nb_consumer.proofs.laws.keeps_restarting.Goals as goal

pub returns : goal.returns
returns c = keeps_restarting
