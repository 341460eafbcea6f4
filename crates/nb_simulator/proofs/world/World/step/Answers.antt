use Rattle.nb_simulator.proofs.Behind.{steps_on}
use Rattle.nb_simulator.proofs.world.World.step.Goals as goal

pub returns-clause-run : goal.returns-clause-run
returns-clause-run c = steps_on c.args.self.now c.take_on.new.self c.args.e.now c.take_on.result c.take_on.ensures.world c.take_on.ensures.house
