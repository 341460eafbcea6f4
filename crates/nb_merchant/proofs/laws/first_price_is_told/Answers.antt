use Rattle.nb_merchant.proofs.Quoting.{first_price_is_told}
use Rattle.nb_merchant.proofs.laws.first_price_is_told.Goals as goal

pub returns : goal.returns
returns c = first_price_is_told
