use Rattle.nb_work.proofs.Stalls.{sales_are_told}
use Rattle.nb_work.proofs.laws.sales_are_told.Goals as goal

pub returns : goal.returns
returns g c = sales_are_told g.D.Disk.tells
