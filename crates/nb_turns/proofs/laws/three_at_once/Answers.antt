use Rattle.nb_turns.proofs.Small.{three_at_once}
use Rattle.nb_turns.proofs.laws.three_at_once.Goals as goal

pub returns : goal.returns
returns c = three_at_once
