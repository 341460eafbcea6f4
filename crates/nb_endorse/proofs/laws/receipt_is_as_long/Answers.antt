use Rattle.nb_endorse.proofs.Receipts.{receipt_is_as_long}
use Rattle.nb_endorse.proofs.laws.receipt_is_as_long.Goals as goal

pub returns : goal.returns
returns c = receipt_is_as_long
