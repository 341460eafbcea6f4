use Rattle.nb_turns.proofs.Small.{failed_twice}
use Rattle.nb_turns.proofs.laws.failed_twice.Goals as goal

pub returns : goal.returns
returns c = failed_twice
