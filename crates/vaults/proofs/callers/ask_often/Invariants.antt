use Rattle.nb_desk.specs.Desks.{IsAt}
use Rattle.vaults.proofs.callers.ask_often.Given as goal

-- the pass is one of this desk
abbrev pub invariant-loop-number : goal.invariant-loop-number
invariant-loop-number g l = IsAt l.pass l.desk
