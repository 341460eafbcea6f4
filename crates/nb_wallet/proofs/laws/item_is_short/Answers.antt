use Rattle.nb_wallet.proofs.Items.{item_is_short}
use Rattle.nb_wallet.proofs.laws.item_is_short.Goals as goal

pub returns : goal.returns
returns c = item_is_short
