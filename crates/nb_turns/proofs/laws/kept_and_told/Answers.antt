use Rattle.nb_turns.proofs.Small.{kept_and_told}
use Rattle.nb_turns.proofs.laws.kept_and_told.Goals as goal

pub returns : goal.returns
returns c = kept_and_told
