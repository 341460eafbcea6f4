use Rattle.nb_trade.proofs.Stopping.{grows_within}
use Rattle.nb_trade.proofs.laws.grows_within.Goals as goal

pub returns : goal.returns
returns g c = grows_within g.D.Disk.tells
