use Rattle.nb_turns.proofs.Single.{one_more}
use Rattle.nb_turns.proofs.laws.one_more.Goals as goal

pub returns : goal.returns
returns c = one_more
