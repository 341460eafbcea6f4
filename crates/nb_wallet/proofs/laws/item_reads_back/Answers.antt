use Rattle.nb_wallet.proofs.Items.{item_reads_back}
use Rattle.nb_wallet.proofs.laws.item_reads_back.Goals as goal

pub returns : goal.returns
returns c = item_reads_back
