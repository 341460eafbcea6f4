use Rattle.std.proofs.Common.{◌≡◌}
use Rattle.nb_play.specs.Draws.{number}
use Rattle.nb_play.proofs.draws.jump.Given as goal

-- what is left of the steps leads where all of them lead
abbrev pub invariant-jumping : goal.invariant-jumping
invariant-jumping l = number l.factor l.summand l.at l.left ≡ number l.fn.multiplier l.fn.increment l.fn.from l.fn.steps

abbrev pub decreases-jumping : goal.decreases-jumping
decreases-jumping l = l.left
