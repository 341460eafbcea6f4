use Rattle.std.proofs.Common.{rules, Err, ◌≡◌, ◌++◌, ◌∷◌, [], ℕ, List, None, sym, ap, subst, ◌∙◌, arith}
use Rattle.nb_price.specs.Products.{Product, product_in}
use Rattle.nb_price.specs.Reads.{ReadsShelf}
use Rattle.nb_price.proofs.Reading.{SoFar, none_yet, one_more, smaller, fails, all_read, found_product, not_added, not_empty, is_empty}
use Rattle.nb_price.proofs.catalogue.Catalogue.read.Goals as goal

pub items-init : goal.items-init
items-init c =
    subst (λ (found : List Product). SoFar c.args.bytes.now found c.args.bytes.now 0) (sym c.new-catalogue.ensures) (none_yet c.args.bytes.now)

pub overflow_add-item : goal.overflow_add-item
overflow_add-item c = omega (arith, c.items.invariant.number, c.items.invariant.few, c.requires)

pub items-preserved : goal.items-preserved
items-preserved c =
    let found = c.in-Some.ensures.some in
    let adds = c.in_ok-add-in-Some.ensures in
    one_more c.args.bytes.now c.items.rest.now c.in-Some.found.rest.now c.items.catalogue c.add.new.self c.items.item found.0 c.items.invariant found.2
    (subst (λ (id : ℕ). product_in c.items.catalogue id ≡ None) found.1.0 adds.0)
    (adds.1 ∙ ap (λ (p : Product). c.items.catalogue ++ p ∷ []) (found_product c.in-Some.found.id c.in-Some.found.price c.in-Some.found.goods.now found.0 found.1.0 found.1.1 found.1.2))

pub items-smaller : goal.items-smaller
items-smaller c = let found = c.in-Some.ensures.some in smaller c.items.rest.now c.in-Some.found.rest.now found.0 found.2

pub returns-in_err-add-in-Some : goal.returns-in_err-add-in-Some
returns-in_err-add-in-Some c =
    let found = c.in-Some.ensures.some in
    let same : c.from_residual.result ≡ Err c.in_err-add-in-Some.field-0.0 = search rules in
    subst (ReadsShelf c.args.bytes.now) (sym same)
    (not_added c.args.bytes.now c.items.rest.now c.in-Some.found.rest.now c.items.catalogue c.add.new.self c.items.item found.0 c.in-Some.found c.in_err-add-in-Some.field-0.0 c.items.invariant found.2 found.1.0 c.in_err-add-in-Some.ensures)

pub returns-in-None : goal.returns-in-None
returns-in-None c =
    fails c.args.bytes.now c.items.rest.now c.items.catalogue c.items.item c.items.invariant (not_empty c.is_empty.result c.items.rest.now c.is_empty.ensures c.items-test.true) c.in-None.ensures.each

pub returns : goal.returns
returns c = all_read c.args.bytes.now c.items.rest.now c.items.catalogue c.items.item c.items.invariant (is_empty c.is_empty.result c.items.rest.now c.is_empty.ensures c.items-test.false)
