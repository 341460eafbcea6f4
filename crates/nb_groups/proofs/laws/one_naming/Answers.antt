use Rattle.nb_groups.proofs.Naming.{one_naming}
use Rattle.nb_groups.proofs.laws.one_naming.Goals as goal

pub returns : goal.returns
returns c = one_naming
