use Rattle.nb_escrow.proofs.Telling.{result_stays}
use Rattle.nb_escrow.proofs.laws.result_stays.Goals as goal

pub returns : goal.returns
returns c = result_stays
