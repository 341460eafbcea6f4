use Rattle.nb_consumer.proofs.Knowing.{known_is_so}
use Rattle.nb_consumer.proofs.laws.known_is_so.Goals as goal

pub returns : goal.returns
returns c = known_is_so
