use Rattle.nb_goods.specs.Goods.{sealed_goods}
use Rattle.nb_goods.proofs.Slices.{all_parts_join}
use Rattle.nb_goods.proofs.laws.parts_open_to_the_goods.Goals as goal

pub returns : goal.returns
returns c key goods = all_parts_join (sealed_goods key goods)
