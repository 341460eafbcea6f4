use Rattle.nb_endorse.proofs.Layouts.{one_endorsement}
use Rattle.nb_endorse.proofs.laws.one_endorsement.Goals as goal

pub returns : goal.returns
returns c = one_endorsement
