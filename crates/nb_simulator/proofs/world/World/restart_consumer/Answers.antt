use Rattle.std.proofs.Common.{refl, sym, ◌∙◌}
use Rattle.nb_simulator.proofs.Nodes.{restart_consumer_is, restart_consumer_unknown}
use Rattle.nb_simulator.proofs.world.World.restart_consumer.Goals as goal

pub returns-in-None-clause-world : goal.returns-in-None-clause-world
returns-in-None-clause-world c = rw (← c.self.view_is) (restart_consumer_unknown _ _ c.args.id (sym c.find.ensures.found ∙ c.in-None.is), refl)

pub returns-clause-world : goal.returns-clause-world
returns-clause-world c = rw (← c.self.view_is) (restart_consumer_is _ _ c.args.id c.in-Some.i c.restart.new.self (sym c.find.ensures.found ∙ c.in-Some.is) c.in_ok-restart.ensures.again)
