use Rattle.nb_world.proofs.Going.{merchant_steps}
use Rattle.nb_world.proofs.laws.merchant_steps.Goals as goal

pub returns : goal.returns
returns g c = merchant_steps {C = g.row.C.Denot} {M = g.row.M.Denot}
