use Rattle.std.proofs.Common.{◌≡◌, ◌++◌, List, ℕ, min, ◌-◌, take, drop, length, ap, sym, ◌∙◌, arith}
use Rattle.nb_goods.specs.Goods.{joined}
use Rattle.nb_goods.proofs.Slices.{divided_behind, part_more, front_short}
use Rattle.nb_goods.proofs.joined.divided.Goals as goal

pub overflow_sub-len : goal.overflow_sub-len
overflow_sub-len c = grind (arith, front_short 32 _ c.loop-part.front.items c.loop-part.invariant.0)

pub loop-part-preserved : goal.loop-part-preserved
loop-part-preserved c =
    let more = part_more c.args.parts.now c.loop-part.part-index c.part-item.result c.loop-part-test.true c.part-item.is ∙ ap (λ (part : List ℕ). joined (take c.loop-part.part-index c.args.parts.now) ++ part) (sym c.as_slice-bytes.ensures) in
    let least : c.min.result ≡ min (length c.as_slice-bytes.result.now) (32 - length c.loop-part.front.items) = grind (arith, c.min.ensures) in
    let both = divided_behind 32 c.min.result _ c.as_slice-bytes.result.now c.loop-part.front.items c.loop-part.text.items c.loop-part.invariant.0 c.loop-part.invariant.1 least in (
      c.in_ok-extend_from_slice.ensures.items ∙ ap (λ (near : List ℕ). c.loop-part.front.items ++ near) c.split_at.ensures.front ∙ both.0 ∙ ap (take 32) (sym more),
      c.in_ok-extend_from_slice-2.ensures.items ∙ ap (λ (far : List ℕ). c.loop-part.text.items ++ far) c.split_at.ensures.back ∙ both.1 ∙ ap (drop 32) (sym more),
    )
