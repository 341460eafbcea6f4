use Rattle.nb_journal.proofs.ReadingLaws.{one_fault}
use Rattle.nb_journal.proofs.laws.one_fault.Goals as goal

pub returns : goal.returns
returns c = one_fault
