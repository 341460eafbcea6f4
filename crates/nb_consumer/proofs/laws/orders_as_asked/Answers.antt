use Rattle.nb_consumer.proofs.Knowing.{orders_as_asked}
use Rattle.nb_consumer.proofs.laws.orders_as_asked.Goals as goal

pub returns : goal.returns
returns c = orders_as_asked
