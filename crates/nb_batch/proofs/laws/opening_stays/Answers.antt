use Rattle.nb_batch.proofs.Staying.{opening_stays}
use Rattle.nb_batch.proofs.laws.opening_stays.Goals as goal

pub returns : goal.returns
returns g c = opening_stays g.D.Disk.tells g.met.D.Disk.only_now
