use Rattle.nb_turns.proofs.Each.{run_keeps_rate}
use Rattle.nb_turns.proofs.laws.run_keeps_rate.Goals as goal

pub returns : goal.returns
returns c = run_keeps_rate
