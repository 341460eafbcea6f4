use Rattle.nb_batch.proofs.Staying.{told}
use Rattle.nb_batch.proofs.laws.told_stays.Goals as goal

pub returns : goal.returns
returns g c = told g.D.Disk.tells g.met.D.Disk.only_now
