use Rattle.nb_world.proofs.Stopping.{run_then}
use Rattle.nb_world.proofs.laws.run_then.Goals as goal

pub returns : goal.returns
returns g c = run_then {C = g.row.C.Denot} {M = g.row.M.Denot}
