use Rattle.std.proofs.Common.{◌≡◌, ◌*◌, ◌/◌, length, refl, subst, arith}
use Rattle.nb_seal.specs.Hmac.{MacHolds}
use Rattle.nb_goods.proofs.Slices.{piece_xored, rest_xored_behind}
use Rattle.nb_goods.proofs.opened.push_text.Goals as goal

pub loop-i-preserved : goal.loop-i-preserved
loop-i-preserved c = λ key m holds.
    subst (MacHolds c.push_chunk.new.mac key)
    (piece_xored c.args.stream.now m c.args.text.now _ _ c.args.from (c.loop-i.i * 8188) _ _ 8188 (omega arith) refl c.split_at.ensures.back c.split_at-in-loop-i.ensures.front (omega arith))
    (c.push_chunk.ensures key _ (c.loop-i.invariant key m holds))

pub returns : goal.returns
returns c = λ key m holds.
    let ended : c.loop-i.i ≡ length c.args.text.now / 8188 = omega arith in
    subst (MacHolds c.push_chunk-2.new.mac key)
    (rest_xored_behind c.args.stream.now m c.args.text.now _ c.args.from (length c.args.text.now / 8188 * 8188) _ (omega arith) refl c.split_at-2.ensures.back)
    (c.push_chunk-2.ensures key _ ((rw ended at c.loop-i.invariant) key m holds))
