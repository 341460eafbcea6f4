use Rattle.nb_goods.proofs.Sealing.{opening_once}
use Rattle.nb_goods.proofs.laws.one_opening.Goals as goal

pub returns : goal.returns
returns c = opening_once
