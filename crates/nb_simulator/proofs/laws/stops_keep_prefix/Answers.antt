use Rattle.nb_simulator.proofs.Terms.{stops_keep_prefix}
use Rattle.nb_simulator.proofs.laws.stops_keep_prefix.Goals as goal

pub returns : goal.returns
returns c = stops_keep_prefix
