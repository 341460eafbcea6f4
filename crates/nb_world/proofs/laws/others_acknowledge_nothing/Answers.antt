use Rattle.nb_world.proofs.Stopping.{others_acknowledge_nothing}
use Rattle.nb_world.proofs.laws.others_acknowledge_nothing.Goals as goal

pub returns : goal.returns
returns g c = others_acknowledge_nothing {C = g.row.C.Denot} {M = g.row.M.Denot}
