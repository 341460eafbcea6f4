use Rattle.nb_turns.proofs.Small.{kept_together}
use Rattle.nb_turns.proofs.laws.kept_together.Goals as goal

pub returns : goal.returns
returns c = kept_together
