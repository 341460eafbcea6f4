use Rattle.nb_world.proofs.Small.{injected_is_recorded}
use Rattle.nb_world.proofs.laws.injected_is_recorded.Goals as goal

pub returns : goal.returns
returns c = injected_is_recorded
