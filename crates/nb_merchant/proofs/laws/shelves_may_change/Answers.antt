use Rattle.nb_merchant.proofs.Shelves.{shelves_may_change}
use Rattle.nb_merchant.proofs.laws.shelves_may_change.Goals as goal

pub returns : goal.returns
returns c = shelves_may_change
