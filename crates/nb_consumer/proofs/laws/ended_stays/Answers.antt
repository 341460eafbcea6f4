use Rattle.nb_consumer.proofs.Staying.{ended_stays}
use Rattle.nb_consumer.proofs.laws.ended_stays.Goals as goal

pub returns : goal.returns
returns c = ended_stays
