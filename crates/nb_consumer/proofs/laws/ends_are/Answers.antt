use Rattle.nb_consumer.proofs.Again.{ends_are}
use Rattle.nb_consumer.proofs.laws.ends_are.Goals as goal

pub returns : goal.returns
returns c = ends_are
