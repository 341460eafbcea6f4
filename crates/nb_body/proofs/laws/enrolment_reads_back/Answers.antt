use Rattle.nb_body.proofs.Layouts.{enrolment_reads_back}
use Rattle.nb_body.proofs.laws.enrolment_reads_back.Goals as goal

pub returns : goal.returns
returns c = enrolment_reads_back
