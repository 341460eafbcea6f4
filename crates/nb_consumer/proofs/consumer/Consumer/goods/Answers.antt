use Rattle.nb_consumer.proofs.Again.{goods_told}
use Rattle.nb_consumer.proofs.consumer.Consumer.goods.Goals as goal

pub returns-clause-exact : goal.returns-clause-exact
returns-clause-exact c = rw (← c.self.view_is) (goods_told c.self.inside.known c.args.transaction c.goods.result c.self.invariant c.goods.ensures)
