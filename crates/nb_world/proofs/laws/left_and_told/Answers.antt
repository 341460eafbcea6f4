use Rattle.nb_world.proofs.Small.{left_and_told}
use Rattle.nb_world.proofs.laws.left_and_told.Goals as goal

pub returns : goal.returns
returns c = left_and_told
