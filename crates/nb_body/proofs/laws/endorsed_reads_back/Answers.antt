use Rattle.nb_body.proofs.Layouts.{endorsed_reads_back}
use Rattle.nb_body.proofs.laws.endorsed_reads_back.Goals as goal

pub returns : goal.returns
returns c = endorsed_reads_back
