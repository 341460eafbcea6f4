use Rattle.nb_groups.proofs.Quotes.{no_offer_exactly}
use Rattle.nb_groups.proofs.laws.no_offer_exactly.Goals as goal

pub returns : goal.returns
returns c = no_offer_exactly
