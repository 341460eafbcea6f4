use Rattle.nb_parties.proofs.Judging.{orders_are_judged}
use Rattle.nb_parties.proofs.laws.orders_are_judged.Goals as goal

pub returns : goal.returns
returns c = orders_are_judged
