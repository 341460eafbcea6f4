use Rattle.nb_turns.proofs.Following.{places_stand}
use Rattle.nb_turns.proofs.laws.places_stand.Goals as goal

pub returns : goal.returns
returns c = places_stand
