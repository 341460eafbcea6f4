use Rattle.nb_world.proofs.Fitting.{fits_exactly_where}
use Rattle.nb_world.proofs.laws.fits_exactly_where.Goals as goal

pub returns : goal.returns
returns g c = fits_exactly_where {C = g.row.C.Denot} {M = g.row.M.Denot}
