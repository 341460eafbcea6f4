use Rattle.nb_world.proofs.Small.{each_node_its_own}
use Rattle.nb_world.proofs.laws.each_node_its_own.Goals as goal

pub returns : goal.returns
returns c = each_node_its_own
