use Rattle.nb_work.proofs.Purchases.{purchases_complete}
use Rattle.nb_work.proofs.laws.purchases_complete.Goals as goal

pub returns : goal.returns
returns g c = purchases_complete g.D.Disk.tells
