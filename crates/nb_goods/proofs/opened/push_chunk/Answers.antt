use Rattle.std.proofs.Common.{◌++◌, ◌-◌, ◌%◌, ◌∙◌, List, ℕ, length, ap, subst, arith}
use Rattle.nb_seal.specs.Hmac.{MacHolds}
use Rattle.nb_seal.specs.Keystream.{xored}
use Rattle.nb_goods.proofs.Slices.{behind_xored}
use Rattle.nb_goods.proofs.opened.push_chunk.Goals as goal

pub returns : goal.returns
returns c = λ key m holds.
    let xored_text = behind_xored c.args.stream.now c.split_at_mut-front.result.0.now c.copy_from_slice.new.self c.stream_xor.new.buf (c.args.from % 4) (c.args.from - c.args.from % 4) c.args.from (omega (arith, c.split_at_mut-front.ensures.front_len, ap length c.copy_from_slice.ensures.after)) (omega arith) c.stream_xor.ensures
    ∙ ap (xored c.args.stream.now c.args.from) c.copy_from_slice.ensures.after in
    subst (λ (bytes : List ℕ). MacHolds c.push.new.self key (m ++ bytes)) xored_text (c.push.ensures key m holds)
