use Rattle.nb_world.proofs.Stopping.{answer_acknowledges}
use Rattle.nb_world.proofs.laws.answer_acknowledges.Goals as goal

pub returns : goal.returns
returns g c = answer_acknowledges {C = g.row.C.Denot} {M = g.row.M.Denot}
