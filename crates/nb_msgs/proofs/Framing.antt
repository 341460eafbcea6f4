-- That a seal behind its header is a frame, and so are two texts, each behind its length.
use Rattle.std.proofs.Common.{◌≡◌, ℕ, ◌+◌, List, ◌∷◌, ◌++◌, length, ap, ◌∙◌, arith}
use Rattle.std.proofs.lemmas.List.{append_assoc}
use Rattle.nb_units.specs.Fields.{be4, sized}
use Rattle.nb_units.specs.Frames.{frame}
use Rattle.nb_units.specs.declared.frames.TheConstants.{FIRST_MAGIC, SECOND_MAGIC, VERSION}
use Rattle.nb_seal.specs.declared.limits.TheConstants.{CODE_BYTES}
use Rattle.nb_seal.specs.Seal.{seal_of}
use Rattle.nb_seal.proofs.Opening.{length-seal_of}

pub sealed_framed : (old mid new key label plain text : List ℕ) (kind n : ℕ) → mid ≡ old ++ (FIRST_MAGIC ∷ SECOND_MAGIC ∷ VERSION ∷ kind ∷ be4 n)
    → new ≡ mid ++ seal_of key label plain → plain ≡ text → n ≡ CODE_BYTES + length plain
    → new ≡ old ++ frame (record { kind = kind; body = seal_of key label text })
sealed_framed old mid new key label plain text kind n header behind spelled long =
    behind
    ∙ ap (λ (front : List ℕ). front ++ seal_of key label plain) header
    ∙ append_assoc old (FIRST_MAGIC ∷ SECOND_MAGIC ∷ VERSION ∷ kind ∷ be4 n) (seal_of key label plain)
    ∙ ap (λ (m : ℕ). old ++ (FIRST_MAGIC ∷ SECOND_MAGIC ∷ VERSION ∷ kind ∷ (be4 m ++ seal_of key label plain))) (omega (arith, long, length-seal_of key label plain))
    ∙ ap (λ (t : List ℕ). old ++ frame (record { kind = kind; body = seal_of key label t })) spelled

regroup : (old header a first b second : List ℕ) → old ++ header ++ a ++ first ++ b ++ second ≡ old ++ (header ++ (a ++ first ++ (b ++ second)))
regroup old header a first b second = simp append_assoc

pub two_framed : (old a b c d new first second : List ℕ) (kind n : ℕ) → a ≡ old ++ (FIRST_MAGIC ∷ SECOND_MAGIC ∷ VERSION ∷ kind ∷ be4 n)
    → b ≡ a ++ be4 (length first) → c ≡ b ++ first → d ≡ c ++ be4 (length second) → new ≡ d ++ second → n ≡ length (sized first ++ sized second)
    → new ≡ old ++ frame (record { kind = kind; body = sized first ++ sized second })
two_framed old a b c d new first second kind n header one text other behind long =
    behind
    ∙ ap (λ (front : List ℕ). front ++ second)
    (other ∙ ap (λ (front : List ℕ). front ++ be4 (length second)) (text ∙ ap (λ (front : List ℕ). front ++ first) (one ∙ ap (λ (front : List ℕ). front ++ be4 (length first)) header)))
    ∙ regroup old (FIRST_MAGIC ∷ SECOND_MAGIC ∷ VERSION ∷ kind ∷ be4 n) (be4 (length first)) first (be4 (length second)) second
    ∙ ap (λ (m : ℕ). old ++ (FIRST_MAGIC ∷ SECOND_MAGIC ∷ VERSION ∷ kind ∷ (be4 m ++ (sized first ++ sized second)))) long
