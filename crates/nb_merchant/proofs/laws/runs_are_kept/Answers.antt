use Rattle.nb_merchant.proofs.Running.{runs_are_kept}
use Rattle.nb_merchant.proofs.laws.runs_are_kept.Goals as goal

pub returns : goal.returns
returns c = runs_are_kept
