use Rattle.nb_escrow.proofs.Exactly.{enrolled_exactly_where}
use Rattle.nb_escrow.proofs.laws.enrolled_exactly_where.Goals as goal

pub returns : goal.returns
returns c = enrolled_exactly_where
