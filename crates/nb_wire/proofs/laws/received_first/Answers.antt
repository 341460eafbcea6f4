use Rattle.nb_wire.proofs.Whole.{received_first}
use Rattle.nb_wire.proofs.laws.received_first.Goals as goal

pub returns : goal.returns
returns c = received_first
