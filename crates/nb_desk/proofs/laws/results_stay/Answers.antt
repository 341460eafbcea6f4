use Rattle.nb_desk.proofs.Growing.{results_stay}
use Rattle.nb_desk.proofs.laws.results_stay.Goals as goal

pub returns : goal.returns
returns g c = results_stay g.D.Disk.tells
