use Rattle.nb_wallet.proofs.Items.{item_spells_back}
use Rattle.nb_wallet.proofs.laws.item_spells_back.Goals as goal

pub returns : goal.returns
returns c = item_spells_back
