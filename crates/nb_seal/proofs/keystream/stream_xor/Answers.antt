use Rattle.std.proofs.Common.{ℕ, ◌+◌, ◌*◌, ◌/◌, ◌^◌, ◌<◌, ◌≡◌, arith, length, add_assoc}
use Rattle.nb_seal.proofs.Xoring.{part_xored, rest_xored}
use Rattle.nb_seal.proofs.keystream.stream_xor.Goals as goal

pub loop-i-preserved : goal.loop-i-preserved
loop-i-preserved c =
    let word : ℕ = c.args.first / 4 + c.loop-i.i in
    let near : word < 2 ^ 40 = omega arith in
    record {
      done = part_xored c.args.key.now c.args.first _ _ _ (4 * word) _ _ _ (omega arith) (omega arith) (omega arith) (c.xor_word.ensures.value c.args.key.now word near c.loop-i.invariant.at) c.loop-i.invariant.done;
      at = rw (← add_assoc (c.args.first / 4) c.loop-i.i 1) (c.xor_word.ensures.moved c.args.key.now word near c.loop-i.invariant.at);
    }

pub returns : goal.returns
returns c =
    let whole : ℕ = length c.args.buf.now / 4 in
    let word : ℕ = c.args.first / 4 + whole in
    let near : word < 2 ^ 40 = omega arith in
    let ended : c.loop-i.i ≡ whole = omega arith in
    rest_xored c.args.key.now c.args.first _ _ (4 * word) _ _ _ (omega arith) (omega arith) (c.xor_tail.ensures c.args.key.now word near (rw ended at c.loop-i.invariant.at)) (rw ended at c.loop-i.invariant.done)
