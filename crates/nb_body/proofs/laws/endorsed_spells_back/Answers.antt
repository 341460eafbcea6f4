use Rattle.nb_body.proofs.Layouts.{endorsed_spells_back}
use Rattle.nb_body.proofs.laws.endorsed_spells_back.Goals as goal

pub returns : goal.returns
returns c = endorsed_spells_back
