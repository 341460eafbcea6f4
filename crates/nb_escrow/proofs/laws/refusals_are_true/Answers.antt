use Rattle.nb_escrow.proofs.Exactly.{refusals_are_true}
use Rattle.nb_escrow.proofs.laws.refusals_are_true.Goals as goal

pub returns : goal.returns
returns c = refusals_are_true
