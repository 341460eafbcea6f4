use Rattle.nb_stall.specs.Sales.{sale_in}
use Rattle.std.proofs.Common.{◌∙◌}
use Rattle.nb_merchant.proofs.Keeping.{found_so}
use Rattle.nb_merchant.proofs.merchant.Merchant.find.Goals as goal

pub returns-clause-held : goal.returns-clause-held
returns-clause-held c =
    rw (← c.self.view_is) (found_so c.self.inside.stall c.self.inside.catalogue c.get.result (sale_in c.self.inside.items.items c.args.purchase) (c.get.ensures.value ∙ c.self.invariant.sales c.args.purchase))
