use Rattle.nb_endorse.proofs.Receipts.{receipt_spells_back}
use Rattle.nb_endorse.proofs.laws.receipt_spells_back.Goals as goal

pub returns : goal.returns
returns c = receipt_spells_back
