use Rattle.nb_goods.proofs.Sealing.{longest}
use Rattle.nb_goods.proofs.laws.limits.Goals as goal

pub returns-clause-longest : goal.returns-clause-longest
returns-clause-longest c = longest
