use Rattle.std.proofs.Common.{ℕ, List, ◌≡◌, ◌≤◌, ◌+◌, ◌∙◌, arith, ap, subst, length}
use Rattle.std.specs.Prelude.{codes, IfOk}
use Rattle.nb_seal.specs.Seal.{iv_of, stream_key_of}
use Rattle.nb_seal.proofs.Opening.{length-seal_of}
use Rattle.nb_goods.specs.Divided.{Divided}
use Rattle.nb_goods.proofs.Sealing.{part_of_goods}
use Rattle.nb_goods.proofs.divided.Parts.part.Goals as goal

pub split_at-requires-2 : goal.split_at-requires-2
split_at-requires-2 c =
    let total : c.args.self.now.total ≡ 32 + length c.args.goods.now =
    ap (λ (d : Divided). d.total) c.requires.same_goods ∙ length-seal_of c.args.self.now.key (codes "good") c.args.goods.now in
    omega (arith, total, c.requires.within, c.saturating_sub-from.ensures)

pub returns : goal.returns
returns c =
    let key_is : c.self.inside.key ≡ c.args.self.now.key = ap (λ (d : Divided). d.key) c.self.view_is in
    let iv_is : c.self.inside.iv ≡ iv_of c.args.self.now.key (codes "good") c.args.goods.now =
    ap (λ (d : Divided). d.iv) (c.self.view_is ∙ c.requires.same_goods) in
    let stream_is : c.self.inside.stream ≡ stream_key_of c.args.self.now.key c.self.inside.iv =
    c.self.invariant.0 ∙ ap (λ (key : List ℕ). stream_key_of key c.self.inside.iv) key_is in
    let short : length c.split_at.result.1.now ≤ 1000000 = omega arith in
    subst (λ (bytes : List ℕ). IfOk c.ciphered.result (λ part. part ≡ bytes))
    (part_of_goods 1000000 c.args.self.now.key c.args.goods.now c.self.inside.iv c.self.inside.stream c.split_at.result.1.now c.split_at-2.result.1.now c.split_at-3.result.0.now c.args.place _ _ _
    iv_is stream_is (search) c.min.ensures c.split_at.ensures.back c.saturating_sub-from.ensures c.split_at-2.ensures.back c.min-2.ensures c.split_at-3.ensures.front short)
    c.ciphered.ensures
