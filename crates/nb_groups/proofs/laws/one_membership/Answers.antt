use Rattle.nb_groups.proofs.Layouts.{one_membership}
use Rattle.nb_groups.proofs.laws.one_membership.Goals as goal

pub returns : goal.returns
returns c = one_membership
