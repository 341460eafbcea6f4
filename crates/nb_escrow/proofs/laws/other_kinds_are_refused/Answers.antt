use Rattle.nb_escrow.proofs.Replying.{other_kinds_are_refused}
use Rattle.nb_escrow.proofs.laws.other_kinds_are_refused.Goals as goal

pub returns : goal.returns
returns c = other_kinds_are_refused
