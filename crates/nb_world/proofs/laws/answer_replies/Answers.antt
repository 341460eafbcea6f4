use Rattle.nb_world.proofs.Answering.{answer_replies}
use Rattle.nb_world.proofs.laws.answer_replies.Goals as goal

pub returns : goal.returns
returns g c = answer_replies {C = g.row.C.Denot} {M = g.row.M.Denot}
