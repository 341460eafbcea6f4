use Rattle.nb_ticket.proofs.Layouts.{grant_carries_ticket}
use Rattle.nb_ticket.proofs.laws.grant_carries_ticket.Goals as goal

pub returns : goal.returns
returns c = grant_carries_ticket
