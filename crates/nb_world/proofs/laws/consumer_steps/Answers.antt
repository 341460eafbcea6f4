use Rattle.nb_world.proofs.Going.{consumer_steps}
use Rattle.nb_world.proofs.laws.consumer_steps.Goals as goal

pub returns : goal.returns
returns g c = consumer_steps {C = g.row.C.Denot} {M = g.row.M.Denot}
