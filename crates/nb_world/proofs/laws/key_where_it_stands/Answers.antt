use Rattle.nb_world.proofs.Settling.{key_where_it_stands}
use Rattle.nb_world.proofs.laws.key_where_it_stands.Goals as goal

pub returns : goal.returns
returns g c = key_where_it_stands {C = g.row.C.Denot} {M = g.row.M.Denot} c.stays_legal.ensures c.records_legal.ensures c.status_tells_key.ensures c.status_tells_the_order.ensures
