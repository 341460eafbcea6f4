use Rattle.nb_turns.proofs.Numbering.{turns_never_fall}
use Rattle.nb_turns.proofs.laws.turns_never_fall.Goals as goal

pub returns : goal.returns
returns c = turns_never_fall
