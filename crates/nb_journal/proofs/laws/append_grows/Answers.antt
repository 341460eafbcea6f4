use Rattle.nb_journal.proofs.Growing.{append_grows}
use Rattle.nb_journal.proofs.laws.append_grows.Goals as goal

pub returns : goal.returns
returns g c = append_grows g.D.Disk.tells
