use Rattle.nb_ticket.proofs.Layouts.{ask_reads_back}
use Rattle.nb_ticket.proofs.laws.ask_reads_back.Goals as goal

pub returns : goal.returns
returns c = ask_reads_back
