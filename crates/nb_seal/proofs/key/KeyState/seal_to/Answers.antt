use Rattle.std.proofs.Common.{◌≡◌, length, drop, ap, sym, ◌∙◌, rules}
use Rattle.std.proofs.lemmas.List.{drop-drop, drop_at}
use Rattle.nb_seal.specs.declared.limits.TheConstants.{CODE_BYTES}
use Rattle.nb_seal.proofs.key.KeyState.seal_to.Goals as goal

pub returns-clause-rest : goal.returns-clause-rest
returns-clause-rest c =
    let n = length c.args.plain.now in
    let rest = c.split_at_mut-text.result.1.now in
    let iv : length c.copy_from_slice-2.new.self ≡ CODE_BYTES = search rules in
    let text : length c.stream_xor.new.buf ≡ length c.args.plain.now = search rules in
    sym (drop-drop n CODE_BYTES _) ∙ ap (drop n) (drop_at c.copy_from_slice-2.new.self _ CODE_BYTES iv) ∙ drop_at c.stream_xor.new.buf rest n text ∙ c.split_at_mut-text.ensures.back ∙ ap (drop n) c.split_at_mut-front.ensures.back ∙ drop-drop n CODE_BYTES c.args.buf.now
