use Rattle.nb_wire.proofs.Outgoing.{wrote_none, wrote_both}
use Rattle.nb_wire.proofs.laws.sent_in_parts.Goals as goal

pub returns : goal.returns
returns c = (wrote_none, wrote_both)
