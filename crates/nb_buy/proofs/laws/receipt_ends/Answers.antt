use Rattle.nb_buy.proofs.Receipts.{receipt_ends}
use Rattle.nb_buy.proofs.laws.receipt_ends.Goals as goal

pub returns : goal.returns
returns g c = receipt_ends g.D.Disk.tells
