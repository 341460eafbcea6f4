use Rattle.nb_units.proofs.EpoidLaws.{spells_back}
use Rattle.nb_units.proofs.laws.epoid_spells_back.Goals as goal

pub returns : goal.returns
returns c = spells_back
