use Rattle.nb_world.proofs.Rating.{rate_is_kept}
use Rattle.nb_world.proofs.laws.rate_is_kept.Goals as goal

pub returns : goal.returns
returns g c = rate_is_kept {C = g.row.C.Denot} {M = g.row.M.Denot} c.stays_legal.ensures
