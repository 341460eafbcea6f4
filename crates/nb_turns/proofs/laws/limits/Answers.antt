use Rattle.std.proofs.Common.{[], refl, arith}
use Rattle.nb_turns.specs.Turns.{FitTurn}
use Rattle.nb_turns.proofs.laws.limits.Goals as goal

pub returns : goal.returns
returns c = (refl, refl, λ (fits : FitTurn []). omega (arith, fits.0))
