use Rattle.nb_world.proofs.Playing.{run_is_events}
use Rattle.nb_world.proofs.laws.run_is_events.Goals as goal

pub returns : goal.returns
returns g c = run_is_events {C = g.row.C.Denot} {M = g.row.M.Denot}
