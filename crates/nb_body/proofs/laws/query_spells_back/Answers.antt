use Rattle.nb_body.proofs.Layouts.{query_spells_back}
use Rattle.nb_body.proofs.laws.query_spells_back.Goals as goal

pub returns : goal.returns
returns c = query_spells_back
