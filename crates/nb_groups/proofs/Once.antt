-- What stands at the front of bytes is one offer's line.
use Rattle.std.proofs.Common.{inl, inr, refl, sym, ◌∙◌, arith}
use Rattle.nb_price.proofs.Once.{one_numeral}
use Rattle.nb_groups.specs.Laws.{OneOffer}
use Rattle.nb_groups.proofs.Lines.{offer_line}

pub one_offer : OneOffer
one_offer bytes x y r s a b =
    let both = sym (offer_line x r) ∙ sym a.1 ∙ b.1 ∙ offer_line y s in
    let product = one_numeral 59 x.product y.product _ _ (inr (omega arith)) a.0.product b.0.product both in
    let group = one_numeral 59 x.group y.group _ _ (inr (omega arith)) a.0.group b.0.group product.1 in
    let price = one_numeral 10 x.price y.price _ _ (inl (omega arith)) (omega (arith, a.0.price.1)) (omega (arith, b.0.price.1)) group.1 in
    (rw (product.0, group.0, price.0) refl, price.1)
