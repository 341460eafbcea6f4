use Rattle.nb_book.proofs.Balances.{balance-none}
use Rattle.nb_book.proofs.laws.unheld_is_empty.Goals as goal

pub returns : goal.returns
returns c = balance-none
