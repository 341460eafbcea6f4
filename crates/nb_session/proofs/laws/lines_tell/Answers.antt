use Rattle.nb_session.proofs.Completing.{lines_tell}
use Rattle.nb_session.proofs.laws.lines_tell.Goals as goal

pub returns : goal.returns
returns g c = lines_tell g.D.Disk.tells
