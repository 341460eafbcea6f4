use Rattle.nb_desk.specs.Desks.{IsAt}
use Rattle.vaults.proofs.desks.take_steps.Given as goal

-- the pass is one of this desk
abbrev pub invariant-loop-step : goal.invariant-loop-step
invariant-loop-step g l = IsAt l.pass l.desk
