use Rattle.nb_ticket.proofs.Layouts.{granted_reads_back}
use Rattle.nb_ticket.proofs.laws.granted_reads_back.Goals as goal

pub returns : goal.returns
returns c = granted_reads_back
