use Rattle.nb_world.proofs.Settling.{money_is_conserved}
use Rattle.nb_world.proofs.laws.money_is_conserved.Goals as goal

pub returns : goal.returns
returns g c = money_is_conserved {C = g.row.C.Denot} {M = g.row.M.Denot} c.stays_legal.ensures
