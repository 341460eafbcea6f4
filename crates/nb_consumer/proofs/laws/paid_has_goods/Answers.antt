use Rattle.nb_consumer.proofs.Again.{paid_has_goods}
use Rattle.nb_consumer.proofs.laws.paid_has_goods.Goals as goal

pub returns : goal.returns
returns c = paid_has_goods
