use Rattle.nb_groups.proofs.Once.{one_offer}
use Rattle.nb_groups.proofs.laws.one_offer.Goals as goal

pub returns : goal.returns
returns c = one_offer
