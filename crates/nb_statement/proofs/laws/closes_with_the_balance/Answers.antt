use Rattle.nb_statement.proofs.Telling.{closes}
use Rattle.nb_statement.proofs.laws.closes_with_the_balance.Goals as goal

pub returns : goal.returns
returns c = closes
