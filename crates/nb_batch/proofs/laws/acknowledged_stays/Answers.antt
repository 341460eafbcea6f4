use Rattle.nb_batch.proofs.Staying.{acknowledged}
use Rattle.nb_batch.proofs.laws.acknowledged_stays.Goals as goal

pub returns : goal.returns
returns g c = acknowledged g.D.Disk.tells g.met.D.Disk.only_now
