use Rattle.nb_work.proofs.Stalls.{sales_go_on}
use Rattle.nb_work.proofs.laws.sales_go_on.Goals as goal

pub returns : goal.returns
returns g c = sales_go_on g.D.Disk.tells g.met.D.Disk.only_now
