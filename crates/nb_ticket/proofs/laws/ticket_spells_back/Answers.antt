use Rattle.nb_ticket.proofs.Layouts.{ticket_spells_back}
use Rattle.nb_ticket.proofs.laws.ticket_spells_back.Goals as goal

pub returns : goal.returns
returns c = ticket_spells_back
