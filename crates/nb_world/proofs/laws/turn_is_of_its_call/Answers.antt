use Rattle.nb_world.proofs.Phasing.{turn_is_of_its_call}
use Rattle.nb_world.proofs.laws.turn_is_of_its_call.Goals as goal

pub returns : goal.returns
returns g c = turn_is_of_its_call {C = g.row.C.Denot} {M = g.row.M.Denot} c.stays_legal.ensures
