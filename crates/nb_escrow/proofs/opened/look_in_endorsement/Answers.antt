use Rattle.std.proofs.Common.{sym}
use Rattle.nb_escrow.proofs.Unsealing.{endorsement_read, endorsement_unread}
use Rattle.nb_escrow.proofs.opened.look_in_endorsement.Goals as goal

pub returns-in-Ok-clause-read : goal.returns-in-Ok-clause-read
returns-in-Ok-clause-read c = sym (endorsement_read c.args.key.now c.args.sealed.now c.in-Ok.opened.endorsement c.in-Ok.ensures.reads)

pub returns-in-Err-clause-refused : goal.returns-in-Err-clause-refused
returns-in-Err-clause-refused c = rw (c.unread_endorsement.ensures) (sym (endorsement_unread c.args.key.now c.args.sealed.now c.in-Err.fault c.in-Err.ensures.reads))
