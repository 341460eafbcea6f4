use Rattle.nb_price.proofs.Once.{one_item}
use Rattle.nb_price.proofs.laws.one_item.Goals as goal

pub returns : goal.returns
returns c = one_item
