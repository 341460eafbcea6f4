use Rattle.nb_body.proofs.Layouts.{payment_request_spells_back}
use Rattle.nb_body.proofs.laws.payment_request_spells_back.Goals as goal

pub returns : goal.returns
returns c = payment_request_spells_back
