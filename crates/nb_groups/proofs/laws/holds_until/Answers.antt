use Rattle.nb_groups.proofs.Layouts.{holds_until}
use Rattle.nb_groups.proofs.laws.holds_until.Goals as goal

pub returns : goal.returns
returns c = holds_until
