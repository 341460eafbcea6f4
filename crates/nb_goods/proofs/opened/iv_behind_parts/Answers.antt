use Rattle.std.proofs.Common.{◌≡◌, ◌≤◌, ◌<◌, ◌+◌, ◌++◌, List, ℕ, min, ◌-◌, take, drop, get_or, length, ap, sym, refl, subst, ◌∙◌, arith, length-drop, length-append}
use Rattle.std.proofs.lemmas.Grind.{common_steps}
use Rattle.std.proofs.lemmas.List.{length-take}
use Rattle.std.proofs.lemmas.List.Folds.{length-flat_map-take}
use Rattle.std.specs.Prelude.{codes}
use Rattle.nb_seal.specs.Hmac.{MacHolds}
use Rattle.nb_seal.specs.Keystream.{xored}
use Rattle.nb_goods.specs.Goods.{joined}
use Rattle.nb_goods.proofs.Slices.{divided_behind, part_more, more_xored}
use Rattle.nb_goods.proofs.opened.iv_behind_parts.Goals as goal

-- of the parts so far and one more: what is behind the first bytes
more_behind : (parts : List (List ℕ)) (i : ℕ) (item bytes near far : List ℕ) (front m : ℕ) → i < length parts → item ≡ get_or parts i item → bytes ≡ item
    → front ≡ min (length (joined (take i parts))) 32 → m ≡ min (length bytes) (32 - front) → near ≡ take m bytes → far ≡ drop m bytes
    → (drop 32 (joined (take i parts)) ++ far ≡ drop 32 (joined (take (i + 1) parts)))
    × (front + length near ≡ min (length (joined (take (i + 1) parts))) 32)
    × (length (drop 32 (joined (take i parts))) + length far ≤ length (joined parts))
more_behind parts i item bytes near far front m within is bytes_is front_is m_is near_is far_is = (rest, counted, short)
  where
    more : joined (take (i + 1) parts) ≡ joined (take i parts) ++ bytes
    more = part_more parts i item within is ∙ ap (λ (part : List ℕ). joined (take i parts) ++ part) (sym bytes_is)

    least : m ≡ min (length bytes) (32 - length (take 32 (joined (take i parts))))
    least = omega (arith, m_is, front_is, length-take 32 (joined (take i parts)))

    rest : drop 32 (joined (take i parts)) ++ far ≡ drop 32 (joined (take (i + 1) parts))
    rest = ap (λ (bytes : List ℕ). drop 32 (joined (take i parts)) ++ bytes) far_is ∙ (divided_behind 32 m _ bytes _ _ refl refl least).1 ∙ ap (drop 32) (sym more)

    counted : front + length near ≡ min (length (joined (take (i + 1) parts))) 32
    counted = rw (more, near_is) (grind (arith, common_steps, m_is, front_is))

    short : length (drop 32 (joined (take i parts))) + length far ≤ length (joined parts)
    short = omega (arith, length-flat_map-take (λ part. part) parts i item within, ap length is, ap length bytes_is, ap length far_is ∙ length-drop m bytes, length-drop 32 (joined (take i parts)))

pub push_text-requires : goal.push_text-requires
push_text-requires c =
    let is = more_behind c.args.parts.now c.loop-part.part-index c.part-item.result c.as_slice-bytes.result.now c.split_at.result.0.now c.split_at.result.1.now c.loop-part.front c.min.result c.loop-part-test.true c.part-item.is c.as_slice-bytes.ensures c.loop-part.invariant.0 c.min.ensures c.split_at.ensures.front c.split_at.ensures.back in
    omega (arith, is.2, c.loop-part.invariant.1, c.requires)

pub overflow_add-from : goal.overflow_add-from
overflow_add-from c =
    let is = more_behind c.args.parts.now c.loop-part.part-index c.part-item.result c.as_slice-bytes.result.now c.split_at.result.0.now c.split_at.result.1.now c.loop-part.front c.min.result c.loop-part-test.true c.part-item.is c.as_slice-bytes.ensures c.loop-part.invariant.0 c.min.ensures c.split_at.ensures.front c.split_at.ensures.back in
    omega (arith, is.2, c.loop-part.invariant.1, c.requires)

pub loop-part-preserved : goal.loop-part-preserved
loop-part-preserved c =
    let is = more_behind c.args.parts.now c.loop-part.part-index c.part-item.result c.as_slice-bytes.result.now c.split_at.result.0.now c.split_at.result.1.now c.loop-part.front c.min.result c.loop-part-test.true c.part-item.is c.as_slice-bytes.ensures c.loop-part.invariant.0 c.min.ensures c.split_at.ensures.front c.split_at.ensures.back in (
      is.1,
      ap (λ (n : ℕ). n + length c.split_at.result.1.now) c.loop-part.invariant.1 ∙ sym (length-append (drop 32 (joined (take c.loop-part.part-index c.args.parts.now))) c.split_at.result.1.now) ∙ ap length is.0,
      subst (λ (text : List ℕ). MacHolds c.push_text.new.mac c.args.key.now (codes "good" ++ xored c.args.stream.now 0 text)) is.0
          (subst (MacHolds c.push_text.new.mac c.args.key.now)
          (more_xored c.args.stream.now (codes "good") (drop 32 (joined (take c.loop-part.part-index c.args.parts.now))) c.split_at.result.1.now 0 c.loop-part.from (omega (arith, c.loop-part.invariant.1)))
          (c.push_text.ensures c.args.key.now _ c.loop-part.invariant.2)),
    )
