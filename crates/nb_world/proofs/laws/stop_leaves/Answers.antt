use Rattle.nb_world.proofs.Stopping.{stop_leaves}
use Rattle.nb_world.proofs.laws.stop_leaves.Goals as goal

pub returns : goal.returns
returns g c = stop_leaves {C = g.row.C.Denot} {M = g.row.M.Denot}
