use Rattle.std.proofs.Common.{◌≡◌, ◌*◌, ◌/◌, length, subst, arith, ap, ◌∙◌}
use Rattle.sha2.specs.Hashers.{Holds256}
use Rattle.sha2.specs.Sha256.{sha256}
use Rattle.nb_goods.proofs.Slices.{piece_xored, rest_xored_behind}
use Rattle.nb_goods.proofs.divided.digest_of.Goals as goal

pub loop-i-preserved : goal.loop-i-preserved
loop-i-preserved c =
    subst (Holds256 c.hash_chunk.new.hasher)
    (piece_xored c.args.stream.now c.args.iv.now c.args.goods.now _ _ 0 (c.loop-i.i * 8192) _ _ 8192 (omega arith) (omega arith) c.split_at.ensures.back c.split_at-in-loop-i.ensures.front (omega arith))
    (c.hash_chunk.ensures _ c.loop-i.invariant)

pub returns : goal.returns
returns c =
    let ended : c.loop-i.i ≡ length c.args.goods.now / 8192 = omega arith in
    c.finalize.ensures _ (c.hash_chunk-2.ensures _ (rw ended at c.loop-i.invariant))
    ∙ ap sha256 (rest_xored_behind c.args.stream.now c.args.iv.now c.args.goods.now _ 0 (length c.args.goods.now / 8192 * 8192) _ (omega arith) (omega arith) c.split_at-2.ensures.back)
