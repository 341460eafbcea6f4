use Rattle.nb_wire.proofs.Whole.{received_all}
use Rattle.nb_wire.proofs.laws.received_all.Goals as goal

pub returns : goal.returns
returns c = received_all
