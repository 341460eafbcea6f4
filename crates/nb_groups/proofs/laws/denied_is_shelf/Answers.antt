use Rattle.nb_groups.proofs.Quotes.{denied_is_shelf}
use Rattle.nb_groups.proofs.laws.denied_is_shelf.Goals as goal

pub returns : goal.returns
returns c = denied_is_shelf
