use Rattle.std.proofs.Common.{rules, Err, ◌≡◌, ◌++◌, ◌∷◌, [], List, None, Some, map, refl, sym, ap, subst, ◌∙◌, arith}
use Rattle.std.specs.Prelude.{nat_eq}
use Rattle.std.specs.Map.{lookup}
use Rattle.nb_price.specs.Products.{Product, product_at, product_in}
use Rattle.nb_price.specs.Putting.{PutsProduct}
use Rattle.nb_price.specs.declared.fault.PutFault.TheVariants.{NoMemory}
use Rattle.nb_price.proofs.Lookups.{held, not_held, there_is, pushed}
use Rattle.nb_price.proofs.catalogue.Catalogue.put.Goals as goal

pub returns-in-Some : goal.returns-in-Some
returns-in-Some c =
    let there = held c.self.inside.products.items c.args.product c.in-Some.field-0.now (sym c.in-Some.ensures.value) in
    let found = subst (λ (products : List Product). product_in products c.args.product ≡ Some there.0) c.self.view_is there.1 in
    (refl, (omega arith, omega arith), omega arith, refl, there_is c.args.self.now c.args.product there.0 found)

pub push-requires-clause-new : goal.push-requires-clause-new
push-requires-clause-new c = sym c.in-None.ensures.value

pub returns : goal.returns
returns c =
    let none : lookup (nat_eq c.args.product) c.self.inside.products.items ≡ None = sym c.in-None.ensures.value in (
      (omega arith, omega arith),
      omega arith,
      subst (λ (products : List Product). product_in products c.args.product ≡ None) c.self.view_is (not_held c.self.inside.products.items c.args.product none),
      pushed c.self.inside.products.items c.push.new.products.items c.args.product c.args.price.0 c.args.goods.items _
          c.in_ok-push.ensures.added refl refl
          ∙ ap (λ (products : List Product). products ++ record { id = c.args.product; price = c.args.price.0; goods = c.args.goods.items } ∷ []) c.self.view_is,
    )

pub returns-in_err-push : goal.returns-in_err-push
returns-in_err-push c =
    let none : lookup (nat_eq c.args.product) c.self.inside.products.items ≡ None = sym c.in-None.ensures.value in
    let same : c.from_residual.result ≡ Err NoMemory = search rules in
    subst (PutsProduct c.args.self.now (map product_at c.push.new.products.items) c.args.product c.args.price c.args.goods.items) (sym same) (
      ap (map product_at) c.in_err-push.ensures.err ∙ c.self.view_is,
      (omega arith, omega arith),
      omega arith,
      subst (λ (products : List Product). product_in products c.args.product ≡ None) c.self.view_is (not_held c.self.inside.products.items c.args.product none),
    )
