use Rattle.std.proofs.Common.{◌≡◌, ◌≤◌, ◌+◌, ◌∙◌, take, get_or, length, ap, arith}
use Rattle.std.proofs.lemmas.List.Folds.{length-flat_map-take}
use Rattle.nb_goods.specs.Goods.{joined}
use Rattle.nb_goods.proofs.joined.length_of.Goals as goal

pub overflow_add-total : goal.overflow_add-total
overflow_add-total c =
    let below : length (joined (take c.loop-part.part-index c.args.parts.now)) + length (get_or c.args.parts.now c.loop-part.part-index c.part-item.result) ≤ length (joined c.args.parts.now) =
    length-flat_map-take (λ part. part) c.args.parts.now c.loop-part.part-index c.part-item.result c.loop-part-test.true in
    let item : length c.as_slice.result.now ≡ length (get_or c.args.parts.now c.loop-part.part-index c.part-item.result) =
    ap length (c.as_slice.ensures ∙ c.part-item.is) in
    omega (arith, below, item, c.loop-part.invariant, c.requires)
