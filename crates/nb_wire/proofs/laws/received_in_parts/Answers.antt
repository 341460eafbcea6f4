use Rattle.nb_wire.proofs.Incoming.{received_none, received_both}
use Rattle.nb_wire.proofs.laws.received_in_parts.Goals as goal

pub returns : goal.returns
returns c = (received_none, received_both)
