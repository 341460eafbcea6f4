use Rattle.nb_turns.proofs.Keeping.{run_keeps_legal}
use Rattle.nb_turns.proofs.laws.run_keeps_legal.Goals as goal

pub returns : goal.returns
returns c = run_keeps_legal c.turn_keeps_legal.ensures
