use Rattle.nb_epo.proofs.Layouts.{order_spells_back}
use Rattle.nb_epo.proofs.laws.order_spells_back.Goals as goal

pub returns : goal.returns
returns c = order_spells_back
