use Rattle.nb_escrow.proofs.Exactly.{payable_is_told}
use Rattle.nb_escrow.proofs.laws.payable_is_told.Goals as goal

pub returns : goal.returns
returns c = payable_is_told
