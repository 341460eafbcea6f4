use Rattle.nb_goods.proofs.Sealing.{right_checksum}
use Rattle.nb_goods.proofs.laws.right_checksum_opens.Goals as goal

pub returns : goal.returns
returns c = right_checksum
