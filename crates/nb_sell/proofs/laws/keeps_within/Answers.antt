use Rattle.nb_sell.proofs.Within.{keeps_within}
use Rattle.nb_sell.proofs.laws.keeps_within.Goals as goal

pub returns : goal.returns
returns g c = keeps_within g.D.Disk.tells
