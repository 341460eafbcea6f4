use Rattle.nb_simulator.proofs.Lawful.{goods_held}
use Rattle.nb_simulator.proofs.laws.paid_holds_goods.Goals as goal

pub returns : goal.returns
returns c = goods_held
