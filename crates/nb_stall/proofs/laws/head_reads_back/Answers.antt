use Rattle.nb_stall.proofs.Heads.{head_reads_back}
use Rattle.nb_stall.proofs.laws.head_reads_back.Goals as goal

pub returns : goal.returns
returns c = head_reads_back
