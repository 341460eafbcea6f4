use Rattle.nb_turns.proofs.Keeping.{failure_leaves_doubt}
use Rattle.nb_turns.proofs.laws.failure_leaves_doubt.Goals as goal

pub returns : goal.returns
returns c = failure_leaves_doubt
