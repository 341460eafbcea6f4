use Rattle.std.proofs.Common.{ap, ◌∙◌}
use Rattle.std.specs.Option.{is_some}
use Rattle.nb_simulator.proofs.world.World.knows.Goals as goal

pub returns-in-Merchant : goal.returns-in-Merchant
returns-in-Merchant c = rw (← c.self.view_is, c.in-Merchant.is) (c.is_some.ensures ∙ ap is_some c.find.ensures.found)

pub returns-in-Consumer : goal.returns-in-Consumer
returns-in-Consumer c = rw (← c.self.view_is, c.in-Consumer.is) (c.is_some-in-Consumer.ensures ∙ ap is_some c.find-in-Consumer.ensures.found)
