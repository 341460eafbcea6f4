use Rattle.nb_vault.proofs.HoldingLaws.{one_list}
use Rattle.nb_vault.proofs.laws.one_list.Goals as goal

pub returns : goal.returns
returns c = one_list
