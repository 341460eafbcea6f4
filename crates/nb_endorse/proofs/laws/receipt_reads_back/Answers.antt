use Rattle.nb_endorse.proofs.Receipts.{receipt_reads_back}
use Rattle.nb_endorse.proofs.laws.receipt_reads_back.Goals as goal

pub returns : goal.returns
returns c = receipt_reads_back
