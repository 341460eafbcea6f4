use Rattle.nb_msgs.proofs.StatusTexts.{status_spells_back}
use Rattle.nb_msgs.proofs.laws.status_spells_back.Goals as goal

pub returns : goal.returns
returns c = status_spells_back
