use Rattle.std.proofs.Common.{sym, ◌∙◌}
use Rattle.nb_price.proofs.Lookups.{copied, copied_keys}
use Rattle.nb_price.proofs.catalogue.Catalogue.copy.Goals as goal

pub invariant_of-result : goal.invariant_of-result
invariant_of-result c = c.in_ok-numbers.ensures ∙ c.self.invariant ∙ sym (copied_keys c.self.inside.products.items c.in_ok-products.products.items c.in_ok-products.ensures.cases.0)

pub returns : goal.returns
returns c = copied c.self.inside.products.items c.in_ok-products.products.items c.in_ok-products.ensures.cases.0 ∙ c.self.view_is
