use Rattle.nb_escrow.proofs.Lasts.{fund_stays}
use Rattle.nb_escrow.proofs.lasting.fund_stays.Goals as goal

pub returns : goal.returns
returns c = fund_stays
