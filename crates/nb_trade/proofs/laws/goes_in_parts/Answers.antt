use Rattle.nb_trade.proofs.Going.{goes_in_parts}
use Rattle.nb_trade.proofs.laws.goes_in_parts.Goals as goal

pub returns : goal.returns
returns c = goes_in_parts
