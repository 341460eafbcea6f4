use Rattle.nb_groups.proofs.OneReading.{one_reading}
use Rattle.nb_groups.proofs.laws.one_reading.Goals as goal

pub returns : goal.returns
returns c = one_reading
