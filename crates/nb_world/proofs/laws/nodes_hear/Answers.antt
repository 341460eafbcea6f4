use Rattle.nb_world.proofs.Small.{nodes_hear}
use Rattle.nb_world.proofs.laws.nodes_hear.Goals as goal

pub returns : goal.returns
returns c = nodes_hear
