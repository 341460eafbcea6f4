use Rattle.std.proofs.Common.{◌≡◌, Some, ap, ◌∙◌}
use Rattle.nb_stall.specs.Sales.{sale_in}
use Rattle.nb_merchant.specs.Shop.{Shop}
use Rattle.nb_merchant.specs.Table.{purchase_by}
use Rattle.nb_merchant.proofs.Keeping.{seals_plans}
use Rattle.nb_merchant.proofs.merchant.Merchant.delivered.Goals as goal

pub returns-in-None-clause-parts : goal.returns-in-None-clause-parts
returns-in-None-clause-parts c =
    let p = purchase_by c.args.consumer c.args.request.now.transaction in
    let sale = c.args.held.now.sale in
    let there : sale_in c.self.inside.items.items p ≡ Some sale = ap (λ (s : Shop). sale_in s.items p) c.self.view_is ∙ c.requires.sale in
    rw (← c.self.view_is) (seals_plans (record { stall = c.self.inside.stall; products = c.self.inside.catalogue; offers = c.self.inside.offers; items = c.self.inside.items.items }) p sale c.goods_of-goods.result.now c.first_part.result there c.goods_of-goods.ensures c.first_part.ensures.parts)
