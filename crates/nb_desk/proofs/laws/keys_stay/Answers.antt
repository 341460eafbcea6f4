use Rattle.nb_desk.proofs.Growing.{keys_stay}
use Rattle.nb_desk.proofs.laws.keys_stay.Goals as goal

pub returns : goal.returns
returns g c = keys_stay g.D.Disk.tells
