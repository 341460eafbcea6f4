use Rattle.nb_simulator.proofs.Lawful.{goods_open}
use Rattle.nb_simulator.proofs.laws.payments_open_goods.Goals as goal

pub returns : goal.returns
returns c = goods_open c.stays_legal.ensures c.records_legal.ensures
