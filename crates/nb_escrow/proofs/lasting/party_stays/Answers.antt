use Rattle.nb_escrow.proofs.Lasts.{party_stays}
use Rattle.nb_escrow.proofs.lasting.party_stays.Goals as goal

pub returns : goal.returns
returns c = party_stays
