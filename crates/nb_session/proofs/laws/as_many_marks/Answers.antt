use Rattle.nb_session.proofs.Completing.{as_many}
use Rattle.nb_session.proofs.laws.as_many_marks.Goals as goal

pub returns : goal.returns
returns g c = as_many g.D.Disk.tells
