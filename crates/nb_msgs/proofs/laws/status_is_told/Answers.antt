use Rattle.nb_msgs.proofs.Placing.{status_spelled_is_read, status_sealed_is_read}
use Rattle.nb_msgs.proofs.laws.status_is_told.Goals as goal

pub returns-clause-spelled : goal.returns-clause-spelled
returns-clause-spelled c = status_spelled_is_read

pub returns-clause-sealed : goal.returns-clause-sealed
returns-clause-sealed c = status_sealed_is_read
