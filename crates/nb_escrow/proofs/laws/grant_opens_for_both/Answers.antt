use Rattle.nb_escrow.proofs.Granting.{grant_opens_for_both}
use Rattle.nb_escrow.proofs.laws.grant_opens_for_both.Goals as goal

pub returns : goal.returns
returns c = grant_opens_for_both
