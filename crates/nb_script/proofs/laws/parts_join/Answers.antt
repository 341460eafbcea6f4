use Rattle.nb_script.proofs.Joining.{parts_join}
use Rattle.nb_script.proofs.laws.parts_join.Goals as goal

pub returns : goal.returns
returns c = parts_join
