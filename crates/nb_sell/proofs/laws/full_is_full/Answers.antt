use Rattle.nb_sell.proofs.Within.{full_is_full}
use Rattle.nb_sell.proofs.laws.full_is_full.Goals as goal

pub returns : goal.returns
returns g c = full_is_full g.D.Disk.tells
