use Rattle.nb_escrow.proofs.Exactly.{settled_exactly_where}
use Rattle.nb_escrow.proofs.laws.settled_exactly_where.Goals as goal

pub returns : goal.returns
returns c = settled_exactly_where
