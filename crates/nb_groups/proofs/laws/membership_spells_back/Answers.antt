use Rattle.nb_groups.proofs.Layouts.{spells_back}
use Rattle.nb_groups.proofs.laws.membership_spells_back.Goals as goal

pub returns : goal.returns
returns c = spells_back
