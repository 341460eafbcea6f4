use Rattle.nb_world.proofs.Rating.{house_records_of_rate}
use Rattle.nb_world.proofs.laws.house_records_of_rate.Goals as goal

pub returns : goal.returns
returns g c = house_records_of_rate {C = g.row.C.Denot} {M = g.row.M.Denot} c.records_legal.ensures
