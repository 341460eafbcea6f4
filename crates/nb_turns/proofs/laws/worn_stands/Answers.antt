use Rattle.nb_turns.proofs.Following.{worn_stands}
use Rattle.nb_turns.proofs.laws.worn_stands.Goals as goal

pub returns : goal.returns
returns c = worn_stands
