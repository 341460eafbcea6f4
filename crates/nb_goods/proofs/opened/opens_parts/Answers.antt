use Rattle.std.proofs.Common.{◌≡◌, ◌≤◌, ◌∙◌, ℕ, List, length, take, replicate, refl, ap, arith}
use Rattle.std.proofs.lemmas.List.{length-take-le, take_all, take-append-le}
use Rattle.std.specs.Prelude.{codes}
use Rattle.nb_seal.specs.Seal.{iv_shown}
use Rattle.nb_seal.proofs.Opening.{no_short_seal}
use Rattle.nb_goods.specs.Goods.{joined}
use Rattle.nb_goods.proofs.Slices.{front_short, front_all, front_whole}
use Rattle.nb_goods.proofs.Sealing.{opens_by_iv, no_goods_by_iv}
use Rattle.nb_goods.proofs.opened.opens_parts.Goals as goal

pub returns-then-as_slice-lt-SEAL-clause-refused : goal.returns-then-as_slice-lt-SEAL-clause-refused
returns-then-as_slice-lt-SEAL-clause-refused c refused =
    let short = front_all 32 (joined c.args.parts.now) c.as_slice.result.now (c.as_slice.ensures.value ∙ c.front_of-front.ensures) c.if-as_slice-lt-SEAL.true in
    no_short_seal c.args.key.now (codes "good") (joined c.args.parts.now) (omega (arith, ap length short, c.if-as_slice-lt-SEAL.true))

pub padded-iv-requires : goal.padded-iv-requires
padded-iv-requires c = front_short 32 _ _ (c.as_slice-2.ensures.value ∙ c.front_of-front.ensures)

-- of a whole front the iv is the first 32 bytes
iv_is : (front bytes : List ℕ) (iv : List ℕ) (n : ℕ) → front ≡ take 32 bytes → n ≡ length front → 32 ≤ n → iv ≡ iv_shown front → (iv ≡ take 32 bytes) × (length iv ≡ 32)
iv_is front bytes iv n is n_is long shown = (same, ap length same ∙ length-take-le 32 bytes (front_whole 32 bytes front is (omega (arith, n_is, long))))
  where
    same : iv ≡ take 32 bytes
    same = shown ∙ take-append-le 32 front (replicate 32 0) (omega (arith, n_is, long)) ∙ take_all 32 front (front_short 32 bytes front is) ∙ is

pub returns-clause-opened : goal.returns-clause-opened
returns-clause-opened c is_same =
    let iv = iv_is c.as_slice-2.result.now (joined c.args.parts.now) c.padded-iv.result _ (c.as_slice-2.ensures.value ∙ c.front_of-front.ensures) refl (omega (arith, c.if-as_slice-lt-SEAL.false, ap length c.as_slice.ensures.value, ap length c.as_slice-2.ensures.value)) c.padded-iv.ensures in
    opens_by_iv c.args.key.now (joined c.args.parts.now) c.padded-iv.result _ c.hmac-stream.result c.iv_behind_parts.result iv.0 refl c.hmac-stream.ensures c.iv_behind_parts.ensures (c.same.ensures.0 is_same)

pub returns-clause-refused : goal.returns-clause-refused
returns-clause-refused c differs =
    let iv = iv_is c.as_slice-2.result.now (joined c.args.parts.now) c.padded-iv.result _ (c.as_slice-2.ensures.value ∙ c.front_of-front.ensures) refl (omega (arith, c.if-as_slice-lt-SEAL.false, ap length c.as_slice.ensures.value, ap length c.as_slice-2.ensures.value)) c.padded-iv.ensures in
    no_goods_by_iv c.args.key.now (joined c.args.parts.now) c.padded-iv.result _ c.hmac-stream.result c.iv_behind_parts.result iv.1 iv.0 refl c.hmac-stream.ensures c.iv_behind_parts.ensures
    (λ same. cc (c.same.ensures.1 same, differs))
