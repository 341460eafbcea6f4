use Rattle.nb_body.proofs.Layouts.{funding_spells_back}
use Rattle.nb_body.proofs.laws.funding_spells_back.Goals as goal

pub returns : goal.returns
returns c = funding_spells_back
