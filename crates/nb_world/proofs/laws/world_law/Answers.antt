use Rattle.nb_world.proofs.Serving.{world_law}
use Rattle.nb_world.proofs.laws.world_law.Goals as goal

pub returns : goal.returns
returns g c = world_law {C = g.row.C.Denot} {M = g.row.M.Denot} c.stays_legal.ensures
