use Rattle.nb_buy.proofs.NextTime.{over_does_nothing}
use Rattle.nb_buy.proofs.laws.over_does_nothing.Goals as goal

pub returns : goal.returns
returns g c = over_does_nothing g.D.Disk.tells
