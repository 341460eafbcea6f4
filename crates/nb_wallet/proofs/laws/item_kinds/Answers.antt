use Rattle.nb_wallet.proofs.Items.{item_kinds}
use Rattle.nb_wallet.proofs.laws.item_kinds.Goals as goal

pub returns : goal.returns
returns c = item_kinds
