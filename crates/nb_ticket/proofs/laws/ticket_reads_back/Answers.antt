use Rattle.nb_ticket.proofs.Layouts.{ticket_reads_back}
use Rattle.nb_ticket.proofs.laws.ticket_reads_back.Goals as goal

pub returns : goal.returns
returns c = ticket_reads_back
