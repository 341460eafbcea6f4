use Rattle.nb_endorse.proofs.Layouts.{endorsement_reads_back}
use Rattle.nb_endorse.proofs.laws.endorsement_reads_back.Goals as goal

pub returns : goal.returns
returns c = endorsement_reads_back
