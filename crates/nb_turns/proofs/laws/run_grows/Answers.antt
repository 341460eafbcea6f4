use Rattle.nb_turns.proofs.Growth.{run_grows}
use Rattle.nb_turns.proofs.laws.run_grows.Goals as goal

pub returns : goal.returns
returns c = run_grows
