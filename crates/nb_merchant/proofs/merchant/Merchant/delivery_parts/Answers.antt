use Rattle.std.proofs.Common.{◌≡◌, Some, ap, sym, ◌∙◌}
use Rattle.nb_stall.specs.Sales.{sale_in, next_serial}
use Rattle.nb_merchant.specs.Shop.{Shop}
use Rattle.nb_merchant.proofs.Serials.{seals_next}
use Rattle.nb_merchant.proofs.merchant.Merchant.delivery_parts.Goals as goal

pub returns : goal.returns
returns c =
    let shop : Shop = record { stall = c.self.inside.stall; products = c.self.inside.catalogue; offers = c.self.inside.offers; items = c.self.inside.items.items } in
    let sale = c.in_ok-held.held.now.sale in
    let next : c.next_serial-next.result ≡ next_serial shop.items = c.next_serial-next.ensures ∙ sym (ap (λ (s : Shop). next_serial s.items) c.self.view_is) in
    let there : sale_in shop.items c.args.purchase ≡ Some sale = ap (λ (s : Shop). sale_in s.items c.args.purchase) c.self.view_is ∙ c.in_ok-held.ensures.sale in
    rw (← c.self.view_is) (seals_next shop c.args.purchase c.args.epoid.now c.args.checksum.now sale c.goods_of-goods.result.now c.next_serial-next.result c.delivery_parts.result there c.goods_of-goods.ensures next c.delivery_parts.ensures)
