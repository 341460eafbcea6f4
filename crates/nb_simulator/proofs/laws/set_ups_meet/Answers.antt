use Rattle.nb_simulator.proofs.Lawful.{set_ups_meet}
use Rattle.nb_simulator.proofs.laws.set_ups_meet.Goals as goal

pub returns : goal.returns
returns c = set_ups_meet
