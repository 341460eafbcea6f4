use Rattle.nb_ticket.proofs.Layouts.{granted_spells_back}
use Rattle.nb_ticket.proofs.laws.granted_spells_back.Goals as goal

pub returns : goal.returns
returns c = granted_spells_back
