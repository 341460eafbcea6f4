use Rattle.std.proofs.Common.{refl, ap, sym}
use Rattle.std.specs.Prelude.{codes}
use Rattle.nb_seal.proofs.Opening.{opens_once}
use Rattle.nb_goods.specs.Goods.{sealed_goods}
use Rattle.nb_goods.proofs.laws.opens_to_what_was_sealed.Goals as goal

pub returns : goal.returns
returns c key goods text =
    (λ opens. opens_once key (codes "good") (sealed_goods key goods) text goods opens refl, λ same. ap (sealed_goods key) (sym same))
