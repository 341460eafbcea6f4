use Rattle.nb_turns.proofs.Keeping.{run_keeps_money}
use Rattle.nb_turns.proofs.laws.run_keeps_money.Goals as goal

pub returns : goal.returns
returns c = run_keeps_money c.run_keeps_legal.ensures
