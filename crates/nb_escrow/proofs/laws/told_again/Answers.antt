use Rattle.nb_escrow.proofs.Telling.{told_again}
use Rattle.nb_escrow.proofs.laws.told_again.Goals as goal

pub returns : goal.returns
returns c = told_again
