use Rattle.nb_work.proofs.Stalls.{sales_complete}
use Rattle.nb_work.proofs.laws.sales_complete.Goals as goal

pub returns : goal.returns
returns g c = sales_complete g.D.Disk.tells
