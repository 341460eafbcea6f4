use Rattle.nb_desk.proofs.Growing.{place_is_count}
use Rattle.nb_desk.proofs.laws.place_is_count.Goals as goal

pub returns : goal.returns
returns g c = place_is_count g.D.Disk.tells
