use Rattle.nb_book.proofs.Summing.{balance_after}
use Rattle.nb_book.proofs.laws.balance_after.Goals as goal

pub returns : goal.returns
returns c = balance_after
