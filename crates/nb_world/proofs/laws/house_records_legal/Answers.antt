use Rattle.nb_world.proofs.Settling.{house_records_legal}
use Rattle.nb_world.proofs.laws.house_records_legal.Goals as goal

pub returns : goal.returns
returns g c = house_records_legal {C = g.row.C.Denot} {M = g.row.M.Denot} c.records_legal.ensures
