use Rattle.nb_escrow.proofs.Lasts.{settlement_stays}
use Rattle.nb_escrow.proofs.lasting.settlement_stays.Goals as goal

pub returns : goal.returns
returns c = settlement_stays
