use Rattle.nb_endorse.proofs.Layouts.{endorsement_spells_back}
use Rattle.nb_endorse.proofs.laws.endorsement_spells_back.Goals as goal

pub returns : goal.returns
returns c = endorsement_spells_back
