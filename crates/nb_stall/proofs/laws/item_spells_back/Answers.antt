use Rattle.nb_stall.proofs.Layouts.{item_spells_back}
use Rattle.nb_stall.proofs.laws.item_spells_back.Goals as goal

pub returns : goal.returns
returns c = item_spells_back
