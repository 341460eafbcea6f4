use Rattle.nb_turns.proofs.Following.{seen_grows}
use Rattle.nb_turns.proofs.laws.seen_grows.Goals as goal

pub returns : goal.returns
returns c = seen_grows
