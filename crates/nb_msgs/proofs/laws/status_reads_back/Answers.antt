use Rattle.nb_msgs.proofs.StatusTexts.{status_reads_back}
use Rattle.nb_msgs.proofs.laws.status_reads_back.Goals as goal

pub returns : goal.returns
returns c = status_reads_back
