use Rattle.nb_consumer.proofs.Again.{rest_is_short}
use Rattle.nb_consumer.proofs.laws.rest_is_short.Goals as goal

pub returns : goal.returns
returns c = rest_is_short
