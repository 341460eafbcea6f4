use Rattle.nb_journal.proofs.Growing.{grows_to_rest}
use Rattle.nb_journal.proofs.laws.grows_to_rest.Goals as goal

pub returns : goal.returns
returns g c = grows_to_rest g.D.Disk.tells
