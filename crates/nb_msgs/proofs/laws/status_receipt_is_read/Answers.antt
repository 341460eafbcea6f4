use Rattle.nb_msgs.proofs.Placing.{status_receipt_is_read}
use Rattle.nb_msgs.proofs.laws.status_receipt_is_read.Goals as goal

pub returns : goal.returns
returns c = status_receipt_is_read
