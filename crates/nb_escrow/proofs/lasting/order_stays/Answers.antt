use Rattle.nb_escrow.proofs.Lasts.{order_stays}
use Rattle.nb_escrow.proofs.lasting.order_stays.Goals as goal

pub returns : goal.returns
returns c = order_stays
