use Rattle.nb_escrow.proofs.Exactly.{told_exactly_where}
use Rattle.nb_escrow.proofs.laws.told_exactly_where.Goals as goal

pub returns : goal.returns
returns c = told_exactly_where
