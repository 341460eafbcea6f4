use Rattle.nb_msgs.proofs.StatusTexts.{one_status}
use Rattle.nb_msgs.proofs.laws.one_status.Goals as goal

pub returns : goal.returns
returns c = one_status
