use Rattle.nb_escrow.proofs.Lasts.{holder_stays}
use Rattle.nb_escrow.proofs.lasting.holder_stays.Goals as goal

pub returns : goal.returns
returns c = holder_stays
