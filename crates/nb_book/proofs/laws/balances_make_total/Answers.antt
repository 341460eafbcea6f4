use Rattle.nb_book.proofs.Summing.{balances_make_total}
use Rattle.nb_book.proofs.laws.balances_make_total.Goals as goal

pub returns : goal.returns
returns c = balances_make_total
