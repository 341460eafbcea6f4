use Rattle.nb_buy.proofs.NextTime.{paid_again}
use Rattle.nb_buy.proofs.laws.paid_again.Goals as goal

pub returns : goal.returns
returns g c = paid_again g.D.Disk.tells
