use Rattle.nb_consumer.proofs.Again.{end_is_told}
use Rattle.nb_consumer.proofs.laws.end_is_told.Goals as goal

pub returns : goal.returns
returns c = end_is_told
