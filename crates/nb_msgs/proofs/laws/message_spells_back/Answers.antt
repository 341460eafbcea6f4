use Rattle.nb_msgs.proofs.Messages.{message_spells_back}
use Rattle.nb_msgs.proofs.laws.message_spells_back.Goals as goal

pub returns : goal.returns
returns c = message_spells_back
