use Rattle.std.proofs.Common.{◌≡◌, List, None, Some, sym, subst, ◌∙◌}
use Rattle.nb_price.specs.Products.{Product, product_in}
use Rattle.nb_price.proofs.Lookups.{held, not_held}
use Rattle.nb_price.proofs.catalogue.Catalogue.goods.Goals as goal

pub returns-in-Some : goal.returns-in-Some
returns-in-Some c =
    let there = held c.self.inside.products.items c.args.product c.in-Some.goods.now (sym c.in-Some.ensures.value) in
    (there.0, subst (λ (products : List Product). product_in products c.args.product ≡ Some there.0) c.self.view_is there.1, c.as_slice.ensures.value ∙ there.3)

pub returns-in-None : goal.returns-in-None
returns-in-None c =
    subst (λ (products : List Product). product_in products c.args.product ≡ None) c.self.view_is (not_held c.self.inside.products.items c.args.product (sym c.in-None.ensures.value))
