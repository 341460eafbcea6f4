use Rattle.nb_world.proofs.Small.{heard_once}
use Rattle.nb_world.proofs.laws.heard_once.Goals as goal

pub returns : goal.returns
returns c = heard_once
