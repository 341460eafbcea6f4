use Rattle.nb_world.proofs.Settling.{order_moves_once}
use Rattle.nb_world.proofs.laws.order_moves_once.Goals as goal

pub returns : goal.returns
returns g c = order_moves_once {C = g.row.C.Denot} {M = g.row.M.Denot} c.stays_legal.ensures
