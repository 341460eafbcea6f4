use Rattle.nb_world.proofs.Fitting.{unfit_changes_nothing}
use Rattle.nb_world.proofs.laws.unfit_changes_nothing.Goals as goal

pub returns : goal.returns
returns g c = unfit_changes_nothing {C = g.row.C.Denot} {M = g.row.M.Denot}
