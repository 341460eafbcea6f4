use Rattle.nb_world.proofs.Receipting.{receipts_of_settlements}
use Rattle.nb_world.proofs.laws.receipts_of_settlements.Goals as goal

pub returns : goal.returns
returns c = receipts_of_settlements
