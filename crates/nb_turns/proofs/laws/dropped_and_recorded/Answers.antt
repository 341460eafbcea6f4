use Rattle.nb_turns.proofs.Small.{dropped_and_recorded}
use Rattle.nb_turns.proofs.laws.dropped_and_recorded.Goals as goal

pub returns : goal.returns
returns c = dropped_and_recorded
