use Rattle.nb_work.proofs.Purchases.{stops_go_on}
use Rattle.nb_work.proofs.laws.stops_go_on.Goals as goal

pub returns : goal.returns
returns g c = stops_go_on g.D.Disk.tells g.met.D.Disk.only_now
