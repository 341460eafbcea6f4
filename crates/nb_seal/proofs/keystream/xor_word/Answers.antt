use Rattle.std.proofs.Common.{ℕ, ◌∙◌, ap}
use Rattle.std.specs.Int.{w32, to_le_bytes}
use Rattle.rand_chacha.specs.ChaCha.{ChaCha, word_at}
use Rattle.nb_seal.proofs.Xoring.{xored-word}
use Rattle.nb_seal.proofs.keystream.xor_word.Goals as goal

pub returns-clause-value : goal.returns-clause-value
returns-clause-value c key word h at =
    xored-word key word _ c.to_le_bytes-word.result c.requires
    (c.to_le_bytes-word.ensures
    ∙ ap (to_le_bytes w32) (ap (λ (p : ℕ × ChaCha). p.0) c.next_word.ensures ∙ ap (λ (g : ChaCha). word_at 10 g.key g.stream g.word_pos) at))
