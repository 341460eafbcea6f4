use Rattle.nb_body.proofs.Layouts.{quote_spells_back}
use Rattle.nb_body.proofs.laws.quote_spells_back.Goals as goal

pub returns : goal.returns
returns c = quote_spells_back
