use Rattle.nb_run.proofs.Asked.{does_as_asked}
use Rattle.nb_run.proofs.laws.does_as_asked.Goals as goal

pub returns : goal.returns
returns g c = does_as_asked g.D.Disk.tells
