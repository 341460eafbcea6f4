use Rattle.nb_epo.proofs.Layouts.{revealed}
use Rattle.nb_epo.proofs.hidden.reveal_with.Goals as goal

pub returns-clause-found : goal.returns-clause-found
returns-clause-found c = λ h is opens. revealed c.args.key.now c.args.bytes.now h c.opened.result is opens c.opened.ensures.reveals
