use Rattle.std.proofs.Common.{◌∙◌}
use Rattle.nb_groups.proofs.Choosing.{least_more}
use Rattle.nb_groups.proofs.found.Found.least.Goals as goal

pub loop-offer-preserved : goal.loop-offer-preserved
loop-offer-preserved c =
    least_more c.args.self.now c.as_slice-offer-items.result.now c.loop-offer.offer-index c.loop-offer.least c.from.result c.min-least.result _ c.as_slice-offer-items.ensures c.loop-offer-test.true c.from.ensures c.min-least.ensures
    ∙ c.loop-offer.invariant
