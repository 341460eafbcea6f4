use Rattle.nb_body.proofs.Layouts.{enrolment_spells_back}
use Rattle.nb_body.proofs.laws.enrolment_spells_back.Goals as goal

pub returns : goal.returns
returns c = enrolment_spells_back
