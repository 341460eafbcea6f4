use Rattle.nb_world.proofs.Phasing.{unread_changes_nothing}
use Rattle.nb_world.proofs.laws.unread_changes_nothing.Goals as goal

pub returns : goal.returns
returns g c = unread_changes_nothing {C = g.row.C.Denot} {M = g.row.M.Denot}
