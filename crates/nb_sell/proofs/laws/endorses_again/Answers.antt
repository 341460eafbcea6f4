use Rattle.nb_sell.proofs.Again.{endorsed_again}
use Rattle.nb_sell.proofs.laws.endorses_again.Goals as goal

pub returns : goal.returns
returns c = endorsed_again
