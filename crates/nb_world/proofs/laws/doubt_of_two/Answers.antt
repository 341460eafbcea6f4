use Rattle.nb_world.proofs.Small.{doubt_of_two}
use Rattle.nb_world.proofs.laws.doubt_of_two.Goals as goal

pub returns : goal.returns
returns c = doubt_of_two
