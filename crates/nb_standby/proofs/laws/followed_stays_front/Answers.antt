use Rattle.nb_standby.proofs.Runs.{followed_stays_front}
use Rattle.nb_standby.proofs.laws.followed_stays_front.Goals as goal

pub returns : goal.returns
returns c = followed_stays_front
