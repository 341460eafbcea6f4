use Rattle.nb_turns.proofs.Single.{one_is_turn}
use Rattle.nb_turns.proofs.laws.one_is_turn.Goals as goal

pub returns : goal.returns
returns c = one_is_turn
