use Rattle.nb_book.proofs.Rates.{legal_under_some}
use Rattle.nb_book.proofs.laws.legal_under_some.Goals as goal

pub returns : goal.returns
returns c = legal_under_some
