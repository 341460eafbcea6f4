use Rattle.nb_merchant.proofs.Quoting.{cheaper_is_carried}
use Rattle.nb_merchant.proofs.laws.cheaper_is_carried.Goals as goal

pub returns : goal.returns
returns c = cheaper_is_carried
