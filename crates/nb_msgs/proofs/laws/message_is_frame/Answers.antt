use Rattle.nb_msgs.proofs.Messages.{message_is_frame}
use Rattle.nb_msgs.proofs.laws.message_is_frame.Goals as goal

pub returns : goal.returns
returns c = message_is_frame
