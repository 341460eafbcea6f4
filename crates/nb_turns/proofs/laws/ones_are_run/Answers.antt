use Rattle.nb_turns.proofs.Single.{ones_are_run}
use Rattle.nb_turns.proofs.laws.ones_are_run.Goals as goal

pub returns : goal.returns
returns c = ones_are_run
