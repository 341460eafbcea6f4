use Rattle.nb_turns.proofs.Following.{turns_apart}
use Rattle.nb_turns.proofs.laws.turns_apart.Goals as goal

pub returns : goal.returns
returns c = turns_apart
