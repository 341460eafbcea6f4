use Rattle.std.specs.Prelude.{codes}
use Rattle.nb_seal.proofs.Opening.{opens_once}
use Rattle.nb_goods.proofs.laws.opens_to_one_text.Goals as goal

pub returns : goal.returns
returns c key bytes first second = opens_once key (codes "good") bytes first second
