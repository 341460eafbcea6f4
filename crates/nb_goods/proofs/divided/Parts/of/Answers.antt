use Rattle.std.proofs.Common.{◌≡◌, ◌∙◌, ap, refl, List, ℕ}
use Rattle.std.specs.Prelude.{codes}
use Rattle.nb_seal.specs.Seal.{iv_of, stream_key_of}
use Rattle.nb_goods.proofs.Sealing.{parts_are}
use Rattle.nb_goods.proofs.divided.Parts.of.Goals as goal

pub returns : goal.returns
returns c =
    let iv_is : c.code-iv.result ≡ iv_of c.args.key.now (codes "good") c.args.goods.now =
    c.code-iv.ensures ∙ ap (λ (key : List ℕ). iv_of key (codes "good") c.args.goods.now) c.new-state.ensures in
    let stream_is : c.code-stream.result ≡ stream_key_of c.args.key.now c.code-iv.result =
    c.code-stream.ensures ∙ ap (λ (key : List ℕ). stream_key_of key c.code-iv.result) c.new-state.ensures in
    parts_are c.args.key.now c.args.goods.now c.code-iv.result c.code-stream.result c.digest_of.result _ iv_is stream_is refl c.digest_of.ensures
