use Rattle.nb_standby.proofs.Layouts.{shipped_reads_back}
use Rattle.nb_standby.proofs.laws.shipped_reads_back.Goals as goal

pub returns : goal.returns
returns c = shipped_reads_back
