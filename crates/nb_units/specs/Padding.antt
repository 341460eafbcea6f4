-- A small list within as many bytes as it may have at most: behind it stand zeros.
use Rattle.std.specs.Prelude.{◌≡◌, ℕ, ◌-◌, ◌≤◌, List, ◌++◌, length, take, drop, replicate}
use Rattle.nb_units.specs.declared.small.TheConstants.{MAX_SMALL}
use Rattle.std.proofs.Common.{sym, subst, ap, ◌∙◌}
use Rattle.std.proofs.lemmas.List.{length-take-le, take-append-drop}

-- the list with the zeros behind it
abbrev pub padded : List ℕ → List ℕ
padded bytes = bytes ++ replicate (MAX_SMALL - length bytes) 0

-- the first n bytes of a whole are a list with zeros behind it
abbrev pub IsPadded : List ℕ → ℕ → Type 0
IsPadded whole n = (length whole ≡ MAX_SMALL) × (n ≤ MAX_SMALL) × (drop n whole ≡ replicate (MAX_SMALL - n) 0)

-- as many bytes are taken as are asked for
pub length-taken : (whole : List ℕ) (n : ℕ) → IsPadded whole n → length (take n whole) ≡ n
length-taken whole n is = length-take-le n whole (subst (λ (m : ℕ). n ≤ m) (sym is.0) is.1)

-- the list that was taken, with the zeros behind it, is the whole
pub padded-taken : (whole : List ℕ) (n : ℕ) → IsPadded whole n → take n whole ++ replicate (MAX_SMALL - n) 0 ≡ whole
padded-taken whole n is = ap (λ (rest : List ℕ). take n whole ++ rest) (sym is.2) ∙ take-append-drop n whole
