use Rattle.nb_world.proofs.Stopping.{stop_keeps_prefix}
use Rattle.nb_world.proofs.laws.stop_keeps_prefix.Goals as goal

pub returns : goal.returns
returns g c = stop_keeps_prefix {C = g.row.C.Denot} {M = g.row.M.Denot}
