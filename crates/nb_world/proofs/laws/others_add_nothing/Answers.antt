use Rattle.nb_world.proofs.Stopping.{others_add_nothing}
use Rattle.nb_world.proofs.laws.others_add_nothing.Goals as goal

pub returns : goal.returns
returns g c = others_add_nothing {C = g.row.C.Denot} {M = g.row.M.Denot}
