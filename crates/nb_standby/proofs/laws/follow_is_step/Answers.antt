use Rattle.nb_standby.proofs.Steps.{follow_is_step}
use Rattle.nb_standby.proofs.laws.follow_is_step.Goals as goal

pub returns : goal.returns
returns g c = follow_is_step g.D.Disk.tells
