use Rattle.nb_turns.proofs.Single.{run_then}
use Rattle.nb_turns.proofs.laws.run_then.Goals as goal

pub returns : goal.returns
returns c = run_then
