use Rattle.nb_stall.proofs.Layouts.{one_item}
use Rattle.nb_stall.proofs.laws.one_item.Goals as goal

pub returns : goal.returns
returns c = one_item
