use Rattle.nb_simulator.proofs.Terms.{worlds_only_grow}
use Rattle.nb_simulator.proofs.laws.worlds_only_grow.Goals as goal

pub returns : goal.returns
returns c = worlds_only_grow
