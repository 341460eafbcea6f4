use Rattle.nb_world.proofs.Moving.{only_grows}
use Rattle.nb_world.proofs.laws.only_grows.Goals as goal

pub returns : goal.returns
returns g c = only_grows {C = g.row.C.Denot} {M = g.row.M.Denot}
