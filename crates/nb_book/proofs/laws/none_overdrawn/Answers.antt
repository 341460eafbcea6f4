use Rattle.nb_book.proofs.Summing.{none_overdrawn}
use Rattle.nb_book.proofs.laws.none_overdrawn.Goals as goal

pub returns : goal.returns
returns c = none_overdrawn
