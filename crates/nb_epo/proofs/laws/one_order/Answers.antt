use Rattle.nb_epo.proofs.Layouts.{one_order}
use Rattle.nb_epo.proofs.laws.one_order.Goals as goal

pub returns : goal.returns
returns c = one_order
