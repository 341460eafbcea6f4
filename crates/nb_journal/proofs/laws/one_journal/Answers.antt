use Rattle.nb_journal.proofs.ReadingLaws.{one_journal}
use Rattle.nb_journal.proofs.laws.one_journal.Goals as goal

pub returns : goal.returns
returns c = one_journal
