use Rattle.nb_server.proofs.Resting.{complete_all}
use Rattle.nb_server.proofs.laws.completes.Goals as goal

pub returns : goal.returns
returns g c = complete_all g.D.Disk.tells
