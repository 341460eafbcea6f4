use Rattle.nb_book.proofs.Counting.{funded_once}
use Rattle.nb_book.proofs.laws.funded_once.Goals as goal

pub returns : goal.returns
returns c = funded_once
