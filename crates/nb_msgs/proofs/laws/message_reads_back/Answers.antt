use Rattle.nb_msgs.proofs.Messages.{message_reads_back}
use Rattle.nb_msgs.proofs.laws.message_reads_back.Goals as goal

pub returns : goal.returns
returns c = message_reads_back
