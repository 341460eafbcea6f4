use Rattle.nb_world.proofs.Phasing.{ignored_changes_nothing}
use Rattle.nb_world.proofs.laws.ignored_changes_nothing.Goals as goal

pub returns : goal.returns
returns g c = ignored_changes_nothing {C = g.row.C.Denot} {M = g.row.M.Denot}
