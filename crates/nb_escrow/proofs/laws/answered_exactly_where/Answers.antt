use Rattle.nb_escrow.proofs.Exactly.{answered_exactly_where}
use Rattle.nb_escrow.proofs.laws.answered_exactly_where.Goals as goal

pub returns : goal.returns
returns c = answered_exactly_where
