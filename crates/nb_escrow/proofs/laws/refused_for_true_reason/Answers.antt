use Rattle.nb_escrow.proofs.Exactly.{refused_for_true_reason}
use Rattle.nb_escrow.proofs.laws.refused_for_true_reason.Goals as goal

pub returns : goal.returns
returns c = refused_for_true_reason
