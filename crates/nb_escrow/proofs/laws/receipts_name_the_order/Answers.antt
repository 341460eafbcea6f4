use Rattle.nb_escrow.proofs.Replying.{receipts_name_the_order}
use Rattle.nb_escrow.proofs.laws.receipts_name_the_order.Goals as goal

pub returns : goal.returns
returns c = receipts_name_the_order
