-- A word up to its mark.
use Rattle.std.proofs.Common.{◌≡◌, ℕ, ◌+◌, ◌<◌, ◌≤◌, min, suc, List, [], ◌∷◌, ◌++◌, length, take, drop, get_or, refl, sym, ap, ◌∙◌, arith, length-append, length-take-le}
use Rattle.std.proofs.lemmas.Bool.{eq-eqb}
use Rattle.std.proofs.lemmas.List.{get_or-take}
use Rattle.std.proofs.Math.Seq.{get_or-append_seam}
use Rattle.std.specs.Str.TwoWay.{Nowhere}
use Rattle.memchr.specs.Find.{Passes, is_byte}
use Rattle.nb_price.specs.Fields.{IsFree}

-- two words up to the same mark are one word, and what follows is the same
pub one_word : (mark : ℕ) (word other rest more : List ℕ) → IsFree mark word → IsFree mark other
    → word ++ mark ∷ rest ≡ other ++ mark ∷ more → (word ≡ other) × (rest ≡ more)
one_word mark [] [] rest more free free' e = (refl, ap (drop 1) e)
one_word mark [] (b ∷ other) rest more free free' e = absurd (free' 0 (omega arith) (sym (ap (λ (l : List ℕ). get_or l 0 0) e)))
one_word mark (b ∷ word) [] rest more free free' e = absurd (free 0 (omega arith) (ap (λ (l : List ℕ). get_or l 0 0) e))
one_word mark (b ∷ word) (d ∷ other) rest more free free' e =
    let inner = one_word mark word other rest more (λ k h. free (suc k) (omega (arith, h))) (λ k h. free' (suc k) (omega (arith, h))) (ap (drop 1) e) in
    let first : b ≡ d = ap (λ (l : List ℕ). get_or l 0 0) e in
    (rw (first, inner.0) refl, inner.1)

-- a mark behind a word is found near the front
pub mark_near : (bytes near word rest : List ℕ) (mark most m : ℕ) → m ≡ min (length bytes) (most + 1) → near ≡ take m bytes → length word ≤ most
    → bytes ≡ word ++ mark ∷ rest → ¬ (Nowhere (Passes (is_byte mark) near) 0 (length near))
mark_near bytes near word rest mark most m m_is near_is short e nowhere =
    let long : length bytes ≡ length word + suc (length rest) = ap length e ∙ length-append word (mark ∷ rest) in
    let below : length word < m = omega (arith, m_is, long, short) in
    let inside : m ≤ length bytes = omega (arith, m_is) in
    let as_long : length near ≡ m = ap length near_is ∙ length-take-le m bytes inside in
    let stands : get_or near (length word) 0 ≡ mark =
    ap (λ (l : List ℕ). get_or l (length word) 0) near_is ∙ get_or-take m bytes (length word) 0 below
    ∙ ap (λ (l : List ℕ). get_or l (length word) 0) e ∙ get_or-append_seam word mark rest 0 in
    nowhere (length word) (omega arith) (omega (arith, below, as_long)) (eq-eqb (get_or near (length word) 0) mark stands)
