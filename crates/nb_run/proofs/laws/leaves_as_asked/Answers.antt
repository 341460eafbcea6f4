use Rattle.nb_run.proofs.Asked.{leaves_as_asked}
use Rattle.nb_run.proofs.laws.leaves_as_asked.Goals as goal

pub returns : goal.returns
returns g c = leaves_as_asked g.D.Disk.tells
