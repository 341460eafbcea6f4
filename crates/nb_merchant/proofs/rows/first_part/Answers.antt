use Rattle.std.proofs.Common.{arith, codes, ap}
use Rattle.nb_goods.specs.Divided.{Divided}
use Rattle.nb_seal.proofs.Opening.{length-seal_of}
use Rattle.nb_merchant.proofs.rows.first_part.Goals as goal

pub goods_message-requires-clause-within : goal.goods_message-requires-clause-within
goods_message-requires-clause-within c =
    omega (arith, ap (λ (p : Divided). p.total) c.parts-made.ensures, length-seal_of c.goods_key.result (codes "good") c.args.goods.now)
