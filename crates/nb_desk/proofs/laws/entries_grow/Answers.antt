use Rattle.nb_desk.proofs.Growing.{entries_grow}
use Rattle.nb_desk.proofs.laws.entries_grow.Goals as goal

pub returns : goal.returns
returns g c = entries_grow g.D.Disk.tells
