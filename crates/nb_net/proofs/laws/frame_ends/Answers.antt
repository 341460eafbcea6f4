-- By the lemma of that name.
use Rattle.nb_net.proofs.Placing.{frame_ends}
use Rattle.nb_net.proofs.laws.frame_ends.Goals as goal

pub returns : goal.returns
returns c = frame_ends
