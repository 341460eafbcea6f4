use Rattle.nb_book.proofs.Counting.{opened_once}
use Rattle.nb_book.proofs.laws.opened_once.Goals as goal

pub returns : goal.returns
returns c = opened_once
