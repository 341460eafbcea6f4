use Rattle.nb_turns.proofs.Following.{answered_then}
use Rattle.nb_turns.proofs.laws.answered_then.Goals as goal

pub returns : goal.returns
returns c = answered_then
