use Rattle.nb_journal.proofs.Growing.{stays_grows}
use Rattle.nb_journal.proofs.laws.stays_grows.Goals as goal

pub returns : goal.returns
returns g c = stays_grows g.D.Disk.tells
