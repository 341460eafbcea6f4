use Rattle.nb_groups.proofs.Layouts.{reads_back}
use Rattle.nb_groups.proofs.laws.membership_reads_back.Goals as goal

pub returns : goal.returns
returns c = reads_back
