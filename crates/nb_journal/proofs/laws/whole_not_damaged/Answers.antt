use Rattle.nb_journal.proofs.ReadingLaws.{whole_not_damaged}
use Rattle.nb_journal.proofs.laws.whole_not_damaged.Goals as goal

pub returns : goal.returns
returns c = whole_not_damaged
