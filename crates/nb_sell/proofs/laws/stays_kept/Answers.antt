use Rattle.nb_sell.proofs.NextTime.{stays_kept}
use Rattle.nb_sell.proofs.laws.stays_kept.Goals as goal

pub returns : goal.returns
returns g c = stays_kept g.D.Disk.tells
