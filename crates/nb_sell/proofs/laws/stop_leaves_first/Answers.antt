use Rattle.nb_sell.proofs.NextTime.{stop_leaves_first}
use Rattle.nb_sell.proofs.laws.stop_leaves_first.Goals as goal

pub returns : goal.returns
returns g c = stop_leaves_first g.D.Disk.tells g.met.D.Disk.only_now
