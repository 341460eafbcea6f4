use Rattle.nb_merchant.proofs.Shelves.{lost_product_is_bad}
use Rattle.nb_merchant.proofs.laws.lost_product_is_bad.Goals as goal

pub returns : goal.returns
returns c = lost_product_is_bad
