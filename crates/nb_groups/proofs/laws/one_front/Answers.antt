use Rattle.nb_groups.proofs.OneReading.{one_front}
use Rattle.nb_groups.proofs.laws.one_front.Goals as goal

pub returns : goal.returns
returns c = one_front
