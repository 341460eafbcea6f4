use Rattle.nb_merchant.proofs.Quoting.{quoted_alike}
use Rattle.nb_merchant.proofs.laws.quoted_alike.Goals as goal

pub returns : goal.returns
returns c = quoted_alike
