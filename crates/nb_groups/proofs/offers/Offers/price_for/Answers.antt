use Rattle.std.proofs.Common.{ap, ◌∙◌}
use Rattle.nb_groups.specs.Offers.{Tariff, price_for}
use Rattle.nb_groups.proofs.Lookups.{looked_up}
use Rattle.nb_groups.proofs.offers.Offers.price_for.Goals as goal

pub returns-in-Some : goal.returns-in-Some
returns-in-Some c =
    c.in-Some.ensures.value ∙ c.self.invariant.firsts.each (c.args.product, c.args.group) ∙ looked_up c.self.inside.prices.items (c.args.product, c.args.group)
    ∙ ap (λ (t : Tariff). price_for t.offers (c.args.product, c.args.group)) c.self.view_is

pub returns-in-None : goal.returns-in-None
returns-in-None c =
    c.in-None.ensures.value ∙ c.self.invariant.firsts.each (c.args.product, c.args.group) ∙ looked_up c.self.inside.prices.items (c.args.product, c.args.group)
    ∙ ap (λ (t : Tariff). price_for t.offers (c.args.product, c.args.group)) c.self.view_is
