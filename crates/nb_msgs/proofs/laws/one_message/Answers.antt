use Rattle.nb_msgs.proofs.Messages.{one_message}
use Rattle.nb_msgs.proofs.laws.one_message.Goals as goal

pub returns : goal.returns
returns c = one_message
