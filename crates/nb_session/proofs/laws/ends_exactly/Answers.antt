use Rattle.nb_session.proofs.Completing.{exactly}
use Rattle.nb_session.proofs.laws.ends_exactly.Goals as goal

pub returns : goal.returns
returns g c = exactly g.D.Disk.tells
