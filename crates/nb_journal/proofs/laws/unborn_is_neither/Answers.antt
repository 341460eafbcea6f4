use Rattle.nb_journal.proofs.ReadingLaws.{unborn_is_neither}
use Rattle.nb_journal.proofs.laws.unborn_is_neither.Goals as goal

pub returns : goal.returns
returns c = unborn_is_neither
