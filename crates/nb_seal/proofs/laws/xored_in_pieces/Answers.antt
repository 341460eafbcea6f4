use Rattle.nb_seal.proofs.Xoring.{xored-append}
use Rattle.nb_seal.proofs.laws.xored_in_pieces.Goals as goal

pub returns : goal.returns
returns c key front rest place = xored-append key place front rest
