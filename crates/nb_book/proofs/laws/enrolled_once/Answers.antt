use Rattle.nb_book.proofs.Counting.{enrolled_once}
use Rattle.nb_book.proofs.laws.enrolled_once.Goals as goal

pub returns : goal.returns
returns c = enrolled_once
