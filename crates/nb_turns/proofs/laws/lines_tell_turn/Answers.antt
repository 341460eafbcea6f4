use Rattle.nb_turns.proofs.Lining.{lines_tell_turn}
use Rattle.nb_turns.proofs.laws.lines_tell_turn.Goals as goal

pub returns : goal.returns
returns c = lines_tell_turn
