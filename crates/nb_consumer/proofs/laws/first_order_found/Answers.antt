use Rattle.nb_consumer.proofs.Telling.{first_order_found}
use Rattle.nb_consumer.proofs.laws.first_order_found.Goals as goal

pub returns : goal.returns
returns c = first_order_found
