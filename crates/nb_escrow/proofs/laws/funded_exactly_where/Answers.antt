use Rattle.nb_escrow.proofs.Exactly.{funded_exactly_where}
use Rattle.nb_escrow.proofs.laws.funded_exactly_where.Goals as goal

pub returns : goal.returns
returns c = funded_exactly_where
