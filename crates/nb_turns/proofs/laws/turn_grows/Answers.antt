use Rattle.nb_turns.proofs.Growth.{turn_grows}
use Rattle.nb_turns.proofs.laws.turn_grows.Goals as goal

pub returns : goal.returns
returns c = turn_grows
