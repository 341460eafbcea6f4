use Rattle.nb_ticket.proofs.Layouts.{one_ask, one_ticket, one_granted}
use Rattle.nb_ticket.proofs.laws.one_spelling.Goals as goal

pub returns-clause-asks : goal.returns-clause-asks
returns-clause-asks c = one_ask

pub returns-clause-tickets : goal.returns-clause-tickets
returns-clause-tickets c = one_ticket

pub returns-clause-grants : goal.returns-clause-grants
returns-clause-grants c = one_granted
