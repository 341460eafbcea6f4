use Rattle.nb_standby.proofs.Layouts.{shipped_spells_back}
use Rattle.nb_standby.proofs.laws.shipped_spells_back.Goals as goal

pub returns : goal.returns
returns c = shipped_spells_back
