use Rattle.std.proofs.Common.{arith}
use Rattle.nb_play.proofs.Feeding.{again}
use Rattle.nb_play.proofs.source.is_again.Goals as goal

pub returns-then-place : goal.returns-then-place
returns-then-place c = λ is. again c.args._seed c.args.place (omega (arith, c.if-place.true)) is
