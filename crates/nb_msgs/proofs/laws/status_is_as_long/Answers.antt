use Rattle.nb_msgs.proofs.StatusTexts.{status_is_as_long}
use Rattle.nb_msgs.proofs.laws.status_is_as_long.Goals as goal

pub returns : goal.returns
returns c = status_is_as_long
