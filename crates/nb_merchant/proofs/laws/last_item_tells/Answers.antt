use Rattle.nb_merchant.proofs.Shelves.{last_item_tells}
use Rattle.nb_merchant.proofs.laws.last_item_tells.Goals as goal

pub returns : goal.returns
returns c = last_item_tells
