use Rattle.nb_wallet.proofs.Heads.{head_spells_back}
use Rattle.nb_wallet.proofs.laws.head_spells_back.Goals as goal

pub returns : goal.returns
returns c = head_spells_back
