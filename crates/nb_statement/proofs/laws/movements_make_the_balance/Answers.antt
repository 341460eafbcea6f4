use Rattle.nb_statement.proofs.Telling.{balance_told}
use Rattle.nb_statement.proofs.laws.movements_make_the_balance.Goals as goal

pub returns : goal.returns
returns c = balance_told
