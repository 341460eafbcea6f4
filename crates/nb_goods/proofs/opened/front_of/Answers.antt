use Rattle.std.proofs.Common.{◌≡◌, ◌++◌, List, ℕ, min, ◌-◌, take, length, ap, sym, refl, ◌∙◌, arith}
use Rattle.nb_goods.specs.Goods.{joined}
use Rattle.nb_goods.proofs.Slices.{divided_behind, part_more, front_short}
use Rattle.nb_goods.proofs.opened.front_of.Goals as goal

pub overflow_sub-as_slice : goal.overflow_sub-as_slice
overflow_sub-as_slice c = front_short 32 _ _ (c.as_slice.ensures.value ∙ c.loop-part.invariant)

pub loop-part-preserved : goal.loop-part-preserved
loop-part-preserved c =
    let more = part_more c.args.parts.now c.loop-part.part-index c.part-item.result c.loop-part-test.true c.part-item.is ∙ ap (λ (part : List ℕ). joined (take c.loop-part.part-index c.args.parts.now) ++ part) (sym c.as_slice-bytes.ensures) in
    let least : c.min-n.result ≡ min (length c.as_slice-bytes.result.now) (32 - length c.loop-part.front) = grind (arith, c.min-n.ensures, c.as_slice.ensures.value) in
    let both = divided_behind 32 c.min-n.result _ c.as_slice-bytes.result.now c.loop-part.front _ c.loop-part.invariant refl least in
    c.raw.ensures ∙ ap (λ (near : List ℕ). c.loop-part.front ++ near) c.split_at.ensures.front ∙ both.0 ∙ ap (take 32) (sym more)
