use Rattle.std.proofs.Common.{take, refl}
use Rattle.nb_seal.proofs.Opening.{text_in_opens, text_in_no_seal}
use Rattle.nb_msgs.proofs.opening.unsealed.Goals as goal

pub returns-in-Ok-clause-text : goal.returns-in-Ok-clause-text
returns-in-Ok-clause-text c = (text_in_opens c.args.key.now c.args.label.now c.args.bytes.now (take c.in-Ok.n c.unseal_to.new.buf)).1 c.in-Ok.ensures.opened

pub returns-in-Err-clause-text : goal.returns-in-Err-clause-text
returns-in-Err-clause-text c = ((text_in_no_seal c.args.key.now c.args.label.now c.args.bytes.now).1 c.in-Err.ensures.refused, refl)
