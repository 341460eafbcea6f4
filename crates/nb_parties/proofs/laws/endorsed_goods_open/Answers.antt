use Rattle.nb_parties.proofs.Endorsing.{endorsed_goods_open}
use Rattle.nb_parties.proofs.laws.endorsed_goods_open.Goals as goal

pub returns : goal.returns
returns c = endorsed_goods_open
