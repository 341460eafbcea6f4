use Rattle.nb_endorse.proofs.Receipts.{one_receipt}
use Rattle.nb_endorse.proofs.laws.one_receipt.Goals as goal

pub returns : goal.returns
returns c = one_receipt
