use Rattle.nb_consumer.proofs.Running.{restarts_as_kept}
use Rattle.nb_consumer.proofs.laws.restarts_as_kept.Goals as goal

pub returns : goal.returns
returns c = restarts_as_kept
