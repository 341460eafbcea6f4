use Rattle.nb_escrow.proofs.Granting.{granted_exactly_where}
use Rattle.nb_escrow.proofs.laws.granted_exactly_where.Goals as goal

pub returns : goal.returns
returns c = granted_exactly_where
