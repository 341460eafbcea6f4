use Rattle.nb_wire.proofs.Whole.{received_up_to_a_fault}
use Rattle.nb_wire.proofs.laws.received_up_to_a_fault.Goals as goal

pub returns : goal.returns
returns c = received_up_to_a_fault
