use Rattle.nb_wallet.proofs.Items.{one_item}
use Rattle.nb_wallet.proofs.laws.one_item.Goals as goal

pub returns : goal.returns
returns c = one_item
