use Rattle.nb_ticket.proofs.Layouts.{ask_spells_back}
use Rattle.nb_ticket.proofs.laws.ask_spells_back.Goals as goal

pub returns : goal.returns
returns c = ask_spells_back
