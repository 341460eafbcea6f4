use Rattle.std.proofs.Common.{Ok, Err}
use Rattle.nb_asking.proofs.Opening.{grant_so}
use Rattle.nb_asking.proofs.reading.open_granted.Goals as goal

pub returns-in-Ok-clause-opened : goal.returns-in-Ok-clause-opened
returns-in-Ok-clause-opened c = grant_so c.args.key.now c.args.sealed.now (Ok c.in-Ok.granted) c.in-Ok.ensures.opens

pub returns-in-Err-clause-opened : goal.returns-in-Err-clause-opened
returns-in-Err-clause-opened c = grant_so c.args.key.now c.args.sealed.now (Err c.in-Err.field-0) c.in-Err.ensures.opens
