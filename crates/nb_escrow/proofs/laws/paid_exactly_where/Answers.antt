use Rattle.nb_escrow.proofs.Exactly.{paid_exactly_where}
use Rattle.nb_escrow.proofs.laws.paid_exactly_where.Goals as goal

pub returns : goal.returns
returns c = paid_exactly_where
