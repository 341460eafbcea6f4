use Rattle.nb_escrow.proofs.Unsealing.{hidden_read, hidden_unread}
use Rattle.nb_escrow.proofs.opened.look_in_hidden.Goals as goal

pub returns-in-Ok : goal.returns-in-Ok
returns-in-Ok c = rw (← c.as_slice.ensures.value) (hidden_read c.args.key.now c.as_slice.result.now c.in-Ok.hidden c.in-Ok.ensures.reveals)

pub returns-in-Err : goal.returns-in-Err
returns-in-Err c = rw (← c.as_slice.ensures.value, c.unread_hidden.ensures) (hidden_unread c.args.key.now c.as_slice.result.now c.in-Err.fault c.in-Err.ensures.reveals)
