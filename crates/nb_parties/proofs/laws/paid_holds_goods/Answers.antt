use Rattle.nb_parties.proofs.Buying.{buyers_hold_goods}
use Rattle.nb_parties.proofs.laws.paid_holds_goods.Goals as goal

pub returns : goal.returns
returns c = buyers_hold_goods
