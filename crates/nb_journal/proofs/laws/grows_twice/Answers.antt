use Rattle.nb_journal.proofs.Growing.{grows_twice}
use Rattle.nb_journal.proofs.laws.grows_twice.Goals as goal

pub returns : goal.returns
returns g c = grows_twice g.D.Disk.tells
