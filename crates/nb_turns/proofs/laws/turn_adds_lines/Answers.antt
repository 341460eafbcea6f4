use Rattle.nb_turns.proofs.Adding.{turn_adds_lines}
use Rattle.nb_turns.proofs.laws.turn_adds_lines.Goals as goal

pub returns : goal.returns
returns c = turn_adds_lines
