use Rattle.nb_endorse.proofs.Placing.{receipt_is_read}
use Rattle.nb_endorse.proofs.places.receipt_is_read.Goals as goal

pub returns : goal.returns
returns c = receipt_is_read
