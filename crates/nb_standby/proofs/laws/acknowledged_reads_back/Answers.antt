use Rattle.nb_standby.proofs.Layouts.{acknowledged_reads_back}
use Rattle.nb_standby.proofs.laws.acknowledged_reads_back.Goals as goal

pub returns : goal.returns
returns c = acknowledged_reads_back
