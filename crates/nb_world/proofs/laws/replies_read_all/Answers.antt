use Rattle.nb_world.proofs.Moving.{replies_read_all}
use Rattle.nb_world.proofs.laws.replies_read_all.Goals as goal

pub returns : goal.returns
returns g c = replies_read_all {C = g.row.C.Denot} {M = g.row.M.Denot}
