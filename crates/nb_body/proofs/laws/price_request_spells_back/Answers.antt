use Rattle.nb_body.proofs.Layouts.{price_request_spells_back}
use Rattle.nb_body.proofs.laws.price_request_spells_back.Goals as goal

pub returns : goal.returns
returns c = price_request_spells_back
