use Rattle.std.proofs.Common.{rules, ◌≡◌, ◌∙◌}
use Rattle.std.specs.Prelude.{codes}
use Rattle.nb_seal.specs.Keystream.{xored}
use Rattle.nb_seal.specs.Seal.{stream_key_of}
use Rattle.nb_seal.proofs.Opening.{opens, no_seal}
use Rattle.nb_goods.proofs.joined.open_text.Goals as goal

pub returns-clause-opened : goal.returns-clause-opened
returns-clause-opened c is_same =
    let plain : c.stream_xor.new.buf ≡ xored (stream_key_of c.args.key.now c.args.iv.now) 0 c.args.text.now = rw (← c.code.ensures) c.stream_xor.ensures in
    opens c.args.key.now (codes "good") c.args.iv.now c.args.text.now c.stream_xor.new.buf plain (c.same.ensures.0 is_same ∙ c.code-2.ensures)

pub returns-clause-refused : goal.returns-clause-refused
returns-clause-refused c differs =
    let plain : c.stream_xor.new.buf ≡ xored (stream_key_of c.args.key.now c.args.iv.now) 0 c.args.text.now = rw (← c.code.ensures) c.stream_xor.ensures in
    no_seal c.args.key.now (codes "good") c.args.iv.now c.args.text.now (search rules)
    (λ is_iv. let e : c.args.iv.now ≡ c.code-2.result = rw (c.code-2.ensures, plain) is_iv in cc (c.same.ensures.1 e, differs))
