use Rattle.nb_consumer.proofs.Running.{runs_restart}
use Rattle.nb_consumer.proofs.laws.runs_restart.Goals as goal

pub returns : goal.returns
returns c = runs_restart
