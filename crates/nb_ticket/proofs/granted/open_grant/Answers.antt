use Rattle.nb_ticket.proofs.Layouts.{grant_opened}
use Rattle.nb_ticket.proofs.granted.open_grant.Goals as goal

pub returns-clause-found : goal.returns-clause-found
returns-clause-found c = λ g is opens. grant_opened c.args.key.now c.args.bytes.now g c.opened.result is opens c.opened.ensures.opens
