use Rattle.nb_merchant.proofs.Serials.{identifiers_differ}
use Rattle.nb_merchant.proofs.laws.identifiers_differ.Goals as goal

pub returns : goal.returns
returns c = identifiers_differ
