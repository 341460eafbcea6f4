use Rattle.std.proofs.Common.{refl, sym, ◌∙◌}
use Rattle.nb_merchant.specs.Shop.{Shop}
use Rattle.nb_simulator.proofs.Nodes.{restart_merchant_is, restart_merchant_unknown}
use Rattle.nb_simulator.proofs.world.World.restart_merchant.Goals as goal

pub returns-in-None-clause-world : goal.returns-in-None-clause-world
returns-in-None-clause-world c = rw (← c.self.view_is) (restart_merchant_unknown _ _ c.args.id (sym c.find.ensures.found ∙ c.in-None.is), refl)

pub returns-clause-world : goal.returns-clause-world
returns-clause-world c = rw (← c.self.view_is, c.restart.ensures) (restart_merchant_is _ _ (λ (s : Shop). refl) c.args.id c.in-Some.i (sym c.find.ensures.found ∙ c.in-Some.is))
