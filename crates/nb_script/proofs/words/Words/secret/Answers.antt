use Rattle.std.proofs.Common.{List, ℕ, ap, ◌∙◌}
use Rattle.std.specs.Result.{result_ok}
use Rattle.hex.specs.Hex.{decode_sized}
use Rattle.nb_script.specs.Words.{bytes_at}
use Rattle.nb_script.proofs.Decoding.{decoded, not_decoded}
use Rattle.nb_script.proofs.words.Words.secret.Goals as goal

pub returns-in-Ok : goal.returns-in-Ok
unfolding bytes_at
returns-in-Ok c =
    decoded (decode_sized c.word.result.now 32) c.decode_to_slice.result c.decode_to_slice.new.out c.decode_to_slice.ensures.value c.in-Ok.is
    ∙ ap (λ (w : List ℕ). result_ok (decode_sized w 32)) c.word.ensures

pub returns-in-Err : goal.returns-in-Err
unfolding bytes_at
returns-in-Err c =
    not_decoded (decode_sized c.word.result.now 32) c.decode_to_slice.result c.in-Err.field-0 c.decode_to_slice.new.out c.decode_to_slice.ensures.value c.in-Err.is
    ∙ ap (λ (w : List ℕ). result_ok (decode_sized w 32)) c.word.ensures
