use Rattle.nb_work.specs.Work.{workers_seen}
use Rattle.nb_work.proofs.Completing.{completes}
use Rattle.nb_work.proofs.laws.completes.Goals as goal

pub returns : goal.returns
returns g c = completes g.D.Disk.tells (workers_seen g.P.Port.seen g.C.Clock.moments)
