use Rattle.nb_batch.proofs.Stopping.{stop_in_run_is_step}
use Rattle.nb_batch.proofs.laws.stop_in_run_is_step.Goals as goal

pub returns : goal.returns
returns g c = stop_in_run_is_step g.D.Disk.tells
