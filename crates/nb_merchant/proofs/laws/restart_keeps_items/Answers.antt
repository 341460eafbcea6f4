use Rattle.nb_merchant.proofs.Restarting.{restart_keeps_items}
use Rattle.nb_merchant.proofs.laws.restart_keeps_items.Goals as goal

pub returns : goal.returns
returns c = restart_keeps_items
