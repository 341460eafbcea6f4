use Rattle.nb_turns.proofs.Single.{last_is_state}
use Rattle.nb_turns.proofs.laws.last_is_state.Goals as goal

pub returns : goal.returns
returns c = last_is_state
