use Rattle.nb_merchant.proofs.Shelves.{other_goods_are_bad}
use Rattle.nb_merchant.proofs.laws.other_goods_are_bad.Goals as goal

pub returns : goal.returns
returns c = other_goods_are_bad
