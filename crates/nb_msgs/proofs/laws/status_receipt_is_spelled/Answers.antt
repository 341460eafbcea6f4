use Rattle.nb_msgs.proofs.Placing.{status_receipt_is_spelled}
use Rattle.nb_msgs.proofs.laws.status_receipt_is_spelled.Goals as goal

pub returns : goal.returns
returns c = status_receipt_is_spelled
