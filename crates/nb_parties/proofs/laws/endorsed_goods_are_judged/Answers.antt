use Rattle.nb_parties.proofs.Judging.{endorsed_goods_are_judged}
use Rattle.nb_parties.proofs.laws.endorsed_goods_are_judged.Goals as goal

pub returns : goal.returns
returns c = endorsed_goods_are_judged
