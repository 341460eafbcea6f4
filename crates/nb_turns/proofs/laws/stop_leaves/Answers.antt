use Rattle.nb_turns.proofs.Keeping.{stop_leaves}
use Rattle.nb_turns.proofs.laws.stop_leaves.Goals as goal

pub returns : goal.returns
returns c = stop_leaves
