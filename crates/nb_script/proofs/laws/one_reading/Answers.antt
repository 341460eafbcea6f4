use Rattle.nb_script.proofs.OneReading.{one_reading}
use Rattle.nb_script.proofs.laws.one_reading.Goals as goal

pub returns : goal.returns
returns c = one_reading
