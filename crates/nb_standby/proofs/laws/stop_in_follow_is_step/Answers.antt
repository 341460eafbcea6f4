use Rattle.nb_standby.proofs.Steps.{stop_in_follow_is_step}
use Rattle.nb_standby.proofs.laws.stop_in_follow_is_step.Goals as goal

pub returns : goal.returns
returns g c = stop_in_follow_is_step g.D.Disk.tells
