use Rattle.nb_standby.proofs.Layouts.{acknowledged_spells_back}
use Rattle.nb_standby.proofs.laws.acknowledged_spells_back.Goals as goal

pub returns : goal.returns
returns c = acknowledged_spells_back
