use Rattle.std.proofs.Common.{sym}
use Rattle.std.specs.Prelude.{codes}
use Rattle.nb_seal.proofs.Opening.{text_in_opens}
use Rattle.nb_wallet.proofs.held.Held.open.Goals as goal

pub returns-in-Ok : goal.returns-in-Ok
returns-in-Ok c = rw (← c.self.view_is, ← c.as_slice.ensures.value) (sym ((text_in_opens c.args.key.now (codes "good") _ c.in-Ok.goods).1 c.in-Ok.ensures))
