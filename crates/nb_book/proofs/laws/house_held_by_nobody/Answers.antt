use Rattle.nb_book.proofs.Balances.{held_by_nobody}
use Rattle.nb_book.proofs.laws.house_held_by_nobody.Goals as goal

pub returns : goal.returns
returns c = held_by_nobody
