use Rattle.std.proofs.Common.{◌∷◌, ◌++◌, ℕ, List, refl, sym, ap, ◌∙◌, arith}
use Rattle.std.specs.Fmt.{decimal}
use Rattle.nb_groups.specs.declared.found.Offer.{Offer}
use Rattle.nb_groups.proofs.Lines.{offer_line}
use Rattle.nb_groups.proofs.line.offer_of.Goals as goal
use Rattle.nb_groups.proofs.line.offer_of.Goals.{then-price-lt1-via-then-price-lt1, then-price-lt1-via-else-price-lt1+then-price-gt-MAX_PRICE}

-- what stands behind the product, behind the group
abbrev behind_product : Offer → List ℕ → List ℕ
behind_product o rest = decimal o.group ++ 59 ∷ (decimal o.price ++ 10 ∷ rest)

abbrev behind_group : Offer → List ℕ → List ℕ
behind_group o rest = decimal o.price ++ 10 ∷ rest

pub returns-in_err-product-clause-each : goal.returns-in_err-product-clause-each
returns-in_err-product-clause-each c o rest begins = absurd (c.in_err-product.ensures.each o.product (behind_product o rest) begins.0.product (begins.1 ∙ offer_line o rest))

pub returns-in_err-group-clause-each : goal.returns-in_err-group-clause-each
returns-in_err-group-clause-each c o rest begins =
    let one = c.in_ok-product.ensures.each o.product (behind_product o rest) begins.0.product (begins.1 ∙ offer_line o rest) in
    absurd (c.in_err-group.ensures.each o.group (behind_group o rest) begins.0.group one.1)

pub returns-in_err-price-clause-each : goal.returns-in_err-price-clause-each
returns-in_err-price-clause-each c o rest begins =
    let one = c.in_ok-product.ensures.each o.product (behind_product o rest) begins.0.product (begins.1 ∙ offer_line o rest) in
    let two = c.in_ok-group.ensures.each o.group (behind_group o rest) begins.0.group one.1 in
    absurd (c.in_err-price.ensures.each o.price rest (omega (arith, begins.0.price.1)) two.1)

pub returns-then-price-lt1-clause-each : goal.returns-then-price-lt1-clause-each
returns-then-price-lt1-clause-each c o rest begins =
    let one = c.in_ok-product.ensures.each o.product (behind_product o rest) begins.0.product (begins.1 ∙ offer_line o rest) in
    let two = c.in_ok-group.ensures.each o.group (behind_group o rest) begins.0.group one.1 in
    let three = c.in_ok-price.ensures.each o.price rest (omega (arith, begins.0.price.1)) two.1 in
    elim c.then-price-lt1.branch [
      | then-price-lt1-via-then-price-lt1 w ↦ omega (arith, w.if-price-lt1, three.0, begins.0.price.0)
      | then-price-lt1-via-else-price-lt1+then-price-gt-MAX_PRICE w ↦ omega (arith, w.if-price-gt-MAX_PRICE, three.0, begins.0.price.1)
    ]

pub returns-clause-some : goal.returns-clause-some
returns-clause-some c =
    let o : Offer = record { product = c.in_ok-product.product; group = c.in_ok-group.group; price = c.in_ok-price.price } in (
      record { product = c.in_ok-product.ensures.fits; group = c.in_ok-group.ensures.fits; price = (omega (arith, c.if-price-lt1.false), omega (arith, c.if-price-gt-MAX_PRICE.false)) },
      c.in_ok-product.ensures.some
          ∙ ap (λ (l : List ℕ). decimal o.product ++ 59 ∷ l) (c.in_ok-group.ensures.some ∙ ap (λ (l : List ℕ). decimal o.group ++ 59 ∷ l) c.in_ok-price.ensures.some)
          ∙ sym (offer_line o c.in_ok-price.rest.now),
    )

pub returns-clause-each : goal.returns-clause-each
returns-clause-each c o rest begins =
    let one = c.in_ok-product.ensures.each o.product (behind_product o rest) begins.0.product (begins.1 ∙ offer_line o rest) in
    let two = c.in_ok-group.ensures.each o.group (behind_group o rest) begins.0.group one.1 in
    let three = c.in_ok-price.ensures.each o.price rest (omega (arith, begins.0.price.1)) two.1 in
    (rw (one.0, two.0, three.0) refl, three.1)
