-- Requests that are opened.
use Rattle.std.proofs.Common.{◌≡◌, ℕ, ◌==◌, false, List, [], ◌∷◌, length, Err, sym, ap, ◌∙◌}
use Rattle.std.specs.Prelude.{codes}
use Rattle.std.proofs.lemmas.Bool.{false≢true}
use Rattle.nb_seal.specs.Seal.{Opens, IsNoSeal, iv_shown}
use Rattle.nb_seal.proofs.Opening.{text_in_opens, text_in_no_seal}
use Rattle.nb_groups.specs.declared.quoting.Denial.TheVariants.{BadSeal}
use Rattle.nb_groups.specs.Reading.{membership_of, membership_in, or_malformed, read_of}

-- a request that is no seal is told with its front
pub not_opened : (key bytes iv : List ℕ) → (length bytes == 0) ≡ false → IsNoSeal key (codes "cred") bytes → iv ≡ iv_shown bytes → Err (BadSeal iv) ≡ membership_in key bytes
not_opened key [] iv some none shown = absurd (false≢true (sym some))
not_opened key (b ∷ bytes) iv some none shown =
    ap (λ (i : List ℕ). Err (BadSeal i)) shown ∙ sym (ap (read_of (b ∷ bytes)) ((text_in_no_seal key (codes "cred") (b ∷ bytes)).1 none))

-- of a request that is a seal the text is read
pub opened_so : (key bytes plain : List ℕ) → (length bytes == 0) ≡ false → Opens key (codes "cred") bytes plain → membership_in key bytes ≡ or_malformed (membership_of plain)
opened_so key [] plain some opens = absurd (false≢true (sym some))
opened_so key (b ∷ bytes) plain some opens = ap (read_of (b ∷ bytes)) ((text_in_opens key (codes "cred") (b ∷ bytes) plain).1 opens)
