use Rattle.nb_journal.proofs.Growing.{stop_leaves_some}
use Rattle.nb_journal.proofs.laws.stop_leaves_some.Goals as goal

pub returns : goal.returns
returns g c = stop_leaves_some g.D.Disk.tells g.met.D.Disk.only_now
