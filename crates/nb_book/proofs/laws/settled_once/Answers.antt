use Rattle.nb_book.proofs.Counting.{settled_once}
use Rattle.nb_book.proofs.laws.settled_once.Goals as goal

pub returns : goal.returns
returns c = settled_once
