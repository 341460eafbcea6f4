use Rattle.nb_consumer.proofs.Staying.{runs_keep_ended}
use Rattle.nb_consumer.proofs.laws.runs_keep_ended.Goals as goal

pub returns : goal.returns
returns c = runs_keep_ended
