use Rattle.nb_epo.proofs.Layouts.{hidden_spells_back}
use Rattle.nb_epo.proofs.laws.hidden_spells_back.Goals as goal

pub returns : goal.returns
returns c = hidden_spells_back
