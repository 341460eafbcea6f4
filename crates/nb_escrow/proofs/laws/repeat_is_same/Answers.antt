use Rattle.nb_escrow.proofs.Telling.{repeat_is_same}
use Rattle.nb_escrow.proofs.laws.repeat_is_same.Goals as goal

pub returns : goal.returns
returns c = repeat_is_same
