-- By the lemma of that name.
use Rattle.nb_net.proofs.Placing.{body_goes_on}
use Rattle.nb_net.proofs.laws.body_goes_on.Goals as goal

pub returns : goal.returns
returns c = body_goes_on
