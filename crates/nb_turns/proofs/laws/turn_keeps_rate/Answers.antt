use Rattle.nb_turns.proofs.Each.{turn_keeps_rate}
use Rattle.nb_turns.proofs.laws.turn_keeps_rate.Goals as goal

pub returns : goal.returns
returns c = turn_keeps_rate
