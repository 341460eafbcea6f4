use Rattle.nb_journal.proofs.ReadingLaws.{stands_read}
use Rattle.nb_journal.proofs.laws.stands_is_read.Goals as goal

pub returns : goal.returns
returns c = stands_read
