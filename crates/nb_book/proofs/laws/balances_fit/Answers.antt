use Rattle.nb_book.proofs.Balances.{balance_le_total}
use Rattle.nb_book.proofs.laws.balances_fit.Goals as goal

pub returns : goal.returns
returns c = balance_le_total
