use Rattle.std.proofs.Common.{Ok, Err}
use Rattle.nb_stall.proofs.Unsealing.{ticket_so}
use Rattle.nb_stall.proofs.opening.open_for.Goals as goal

pub returns-in-Ok : goal.returns-in-Ok
returns-in-Ok c = ticket_so c.args.stall.now c.args.ticket.now c.args.moment (Ok c.in-Ok.opened) c.in-Ok.ensures.opens

pub returns-in-Err : goal.returns-in-Err
returns-in-Err c = ticket_so c.args.stall.now c.args.ticket.now c.args.moment (Err c.in-Err._fault) c.in-Err.ensures.opens
