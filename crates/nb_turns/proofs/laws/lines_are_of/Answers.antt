use Rattle.nb_turns.proofs.Lining.{lines_are_of}
use Rattle.nb_turns.proofs.laws.lines_are_of.Goals as goal

pub returns : goal.returns
returns c = lines_are_of
