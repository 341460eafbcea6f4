-- Lines, one behind the other.
use Rattle.std.proofs.Common.{◌≡◌, ℕ, ◌+◌, ◌≤◌, true, false, List, [], ◌∷◌, length, Result, Ok, Err, inl, inr, refl, sym, ap, subst, ◌∙◌}
use Rattle.std.specs.Prelude.{◌==◌, if◌then◌else◌, Bool}
use Rattle.nb_script.specs.declared.limits.TheConstants.{MAX_LINES}
use Rattle.nb_script.specs.declared.line.Line.{Line}
use Rattle.nb_script.specs.Settings.{Setting, behind}
use Rattle.nb_script.specs.Reads.{Stands, LinesSay, TakesLine, lines_of}
use Rattle.nb_script.proofs.Parting.{some_part}

-- a line was taken: what is said behind it is said with it
pub one_more : (s t : Setting) (before : ℕ) (bytes line rest : List ℕ) → lines_of bytes ≡ line ∷ lines_of rest → before + 1 ≤ MAX_LINES → TakesLine s (before + 1) line t true
    → (told : Result Setting ℕ) → LinesSay t (before + 1) (lines_of rest) told → LinesSay s before (lines_of bytes) told
one_more s t before bytes line rest cut few takes told says =
    let p = some_part 10 rest in
    let rest_says : LinesSay (behind s (before + 1) takes.0) (before + 1) (p.first ∷ p.more) told =
    subst (λ (v : Setting). LinesSay v (before + 1) (p.first ∷ p.more) told) takes.3 (subst (λ (ls : List (List ℕ)). LinesSay t (before + 1) ls told) p.is says) in
    let with_line : LinesSay s before (line ∷ p.first ∷ p.more) told = inl (takes.0, record { few = few; says = takes.1; may = takes.2 }, rest_says) in
    subst (λ (ls : List (List ℕ)). LinesSay s before ls told) (sym (cut ∙ ap (λ (ls : List (List ℕ)). line ∷ ls) p.is)) with_line

-- no line stands there: it is the first bad one
pub no_line : (s : Setting) (before : ℕ) (bytes line rest : List ℕ) → lines_of bytes ≡ line ∷ lines_of rest → ((l : Line) → ¬ Stands s (before + 1) line l)
    → LinesSay s before (lines_of bytes) (Err (before + 1))
no_line s before bytes line rest cut none =
    let p = some_part 10 rest in
    let bad : LinesSay s before (line ∷ p.first ∷ p.more) (Err (before + 1)) = inr (none, refl) in
    subst (λ (ls : List (List ℕ)). LinesSay s before ls (Err (before + 1))) (sym (cut ∙ ap (λ (ls : List (List ℕ)). line ∷ ls) p.is)) bad

pub too_many : (s : Setting) (before : ℕ) (bytes line rest : List ℕ) → lines_of bytes ≡ line ∷ lines_of rest → (before + 1 ≤ MAX_LINES → ⊥)
    → LinesSay s before (lines_of bytes) (Err (before + 1))
too_many s before bytes line rest cut many = no_line s before bytes line rest cut (λ l stands. many stands.few)

pub not_taken : (s t : Setting) (before : ℕ) (bytes line rest : List ℕ) → lines_of bytes ≡ line ∷ lines_of rest → TakesLine s (before + 1) line t false
    → LinesSay s before (lines_of bytes) (Err (before + 1))
not_taken s t before bytes line rest cut takes = no_line s before bytes line rest cut (λ l stands. takes l stands.says stands.may)

-- what stands behind the last line feed
pub all_read : (s : Setting) (before : ℕ) (bytes : List ℕ) → lines_of bytes ≡ bytes ∷ [] → (length bytes == 0) ≡ true → LinesSay s before (lines_of bytes) (Ok s)
all_read s before bytes last none =
    let said : LinesSay s before (bytes ∷ []) (Ok s) = sym (ap (λ (t : Bool). if t then Ok s else Err (before + 1)) none) in
    subst (λ (ls : List (List ℕ)). LinesSay s before ls (Ok s)) (sym last) said

pub some_left : (s : Setting) (before : ℕ) (bytes : List ℕ) → lines_of bytes ≡ bytes ∷ [] → (length bytes == 0) ≡ false → LinesSay s before (lines_of bytes) (Err (before + 1))
some_left s before bytes last some =
    let said : LinesSay s before (bytes ∷ []) (Err (before + 1)) = sym (ap (λ (t : Bool). let r : Result Setting ℕ = if t then Ok s else Err (before + 1) in r) some) in
    subst (λ (ls : List (List ℕ)). LinesSay s before ls (Err (before + 1))) (sym last) said
