use Rattle.std.proofs.Common.{◌≡◌, ◌++◌, ◌∷◌, [], List, None, option_copied, refl, sym, ap, subst, ◌∙◌}
use Rattle.std.specs.Prelude.{nat_eq}
use Rattle.std.specs.Map.{lookup}
use Rattle.nb_price.specs.Products.{Product, product_in}
use Rattle.nb_price.proofs.Lookups.{not_held, not_in_map, pushed, copied_some, some_is_not_none, none_where_not_some}
use Rattle.nb_price.proofs.catalogue.Catalogue.add.Goals as goal

pub returns-then-is_some : goal.returns-then-is_some
returns-then-is_some c = (
  refl,
  refl,
  λ none.
      let inside = subst (λ (products : List Product). product_in products c.args.found.now.id ≡ None) (sym c.self.view_is) none in
      some_is_not_none (option_copied c.held.result) (copied_some c.held.result ∙ sym c.is_some.ensures ∙ c.if-is_some.true) (c.held.ensures.value ∙ not_in_map c.self.inside.products.items c.args.found.now.id inside),
)

pub push-requires-clause-new : goal.push-requires-clause-new
push-requires-clause-new c = sym c.held.ensures.value ∙ none_where_not_some (option_copied c.held.result) (copied_some c.held.result ∙ sym c.is_some.ensures ∙ c.if-is_some.false)

pub returns : goal.returns
returns c =
    let none : lookup (nat_eq c.args.found.now.id) c.self.inside.products.items ≡ None =
    sym c.held.ensures.value ∙ none_where_not_some (option_copied c.held.result) (copied_some c.held.result ∙ sym c.is_some.ensures ∙ c.if-is_some.false) in (
      subst (λ (products : List Product). product_in products c.args.found.now.id ≡ None) c.self.view_is (not_held c.self.inside.products.items c.args.found.now.id none),
      pushed c.self.inside.products.items c.push.new.products.items c.args.found.now.id c.args.found.now.price c.args.found.now.goods.now _ c.in_ok-push.ensures.added c.from.ensures c.in_ok-from_slice.ensures.items
          ∙ ap (λ (products : List Product). products ++ record { id = c.args.found.now.id; price = c.args.found.now.price; goods = c.args.found.now.goods.now } ∷ []) c.self.view_is,
    )
