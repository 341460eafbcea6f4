use Rattle.nb_journal.proofs.ReadingLaws.{read_stands}
use Rattle.nb_journal.proofs.laws.read_stands.Goals as goal

pub returns : goal.returns
returns c = read_stands
