use Rattle.nb_world.proofs.Stopping.{entries_have_origins}
use Rattle.nb_world.proofs.laws.entries_have_origins.Goals as goal

pub returns : goal.returns
returns g c = entries_have_origins {C = g.row.C.Denot} {M = g.row.M.Denot}
