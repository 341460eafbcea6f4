use Rattle.nb_merchant.proofs.Serials.{serials_follow}
use Rattle.nb_merchant.proofs.laws.serials_follow.Goals as goal

pub returns : goal.returns
returns c = serials_follow
