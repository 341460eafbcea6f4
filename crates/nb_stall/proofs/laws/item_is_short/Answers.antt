use Rattle.nb_stall.proofs.Lengths.{item_is_short}
use Rattle.nb_stall.proofs.laws.item_is_short.Goals as goal

pub returns : goal.returns
returns c = item_is_short
