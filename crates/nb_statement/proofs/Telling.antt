-- The lines of a list, entry by entry, and as a function of its movements.
use Rattle.std.proofs.Common.{◌≡◌, ℕ, ◌+◌, List, [], ◌∷◌, ◌++◌, Option, Some, None, length, take, refl, sym, ap, ap₂, ◌∙◌, subst, arith, append_assoc, append-nil}
use Rattle.std.proofs.lemmas.List.{take_more, take_at, length_push, length-append, get_or_at}
use Rattle.std.proofs.lemmas.List.Elements.{filter_map-append}
use Rattle.std.proofs.lemmas.Option.{slice_get_within, get_or_from_slice_get}
use Rattle.std.specs.List.{fold, slice_get}
use Rattle.nb_units.specs.declared.ids.AcctId.{AcctId}
use Rattle.nb_entry.specs.declared.entry.Entry.{Entry}
use Rattle.nb_book.specs.Money.{balance}
use Rattle.nb_book.specs.Legal.{Legal, LegalAfter}
use Rattle.nb_book.proofs.Growing.{front_legal}
use Rattle.nb_statement.specs.declared.movement.Movement.{Movement}
use Rattle.nb_statement.specs.Movements.{after, movement_of, movements}
use Rattle.nb_statement.specs.Statement.{closing, heading, line, line_behind, lines_behind, statement, told_of}
use Rattle.nb_statement.proofs.Moving.{moves, stays}

-- the lines of a list are those of its first part, and then those of the rest behind it
pub lines_append : (a : AcctId) (before xs ys : List Entry) → lines_behind a before (xs ++ ys) ≡ lines_behind a before xs ++ lines_behind a (before ++ xs) ys
lines_append a before [] ys = ap (λ (B : List Entry). lines_behind a B ys) (sym (append-nil before))
lines_append a before (x ∷ xs) ys =
    ap (λ (rest : List ℕ). line_behind a before x ++ rest) (lines_append a (before ++ x ∷ []) xs ys)
    ∙ sym (append_assoc (line_behind a before x) (lines_behind a (before ++ x ∷ []) xs) (lines_behind a ((before ++ x ∷ []) ++ xs) ys))
    ∙ ap (λ (B : List Entry). lines_behind a before (x ∷ xs) ++ lines_behind a B ys) (append_assoc before (x ∷ []) xs)

-- an entry that stands in a list ends the first part of it
pub next_part : (H : List Entry) (i : ℕ) (e : Entry) → slice_get H i ≡ Some e → take (i + 1) H ≡ take i H ++ e ∷ []
next_part H i e there = take_more H i e (slice_get_within H i e there) ∙ ap (λ (x : Entry). take i H ++ x ∷ []) (get_or_from_slice_get H i e e there)

-- and is legal behind the rest of that
pub next_legal : (H : List Entry) (i : ℕ) (e : Entry) → Legal H → slice_get H i ≡ Some e → LegalAfter (take i H) e
next_legal H i e legal there = subst (λ (x : Entry). LegalAfter (take i H) x) (get_or_from_slice_get H i e e there) (legal.each i (slice_get_within H i e there) e)

-- the lines up to an entry are those before it, and then its own
pub lines_next : (a : AcctId) (H : List Entry) (i : ℕ) (e : Entry) → slice_get H i ≡ Some e → lines_behind a [] (take (i + 1) H) ≡ lines_behind a [] (take i H) ++ line_behind a (take i H) e
lines_next a H i e there =
    ap (λ (B : List Entry). lines_behind a [] B) (next_part H i e there) ∙ lines_append a [] (take i H) (e ∷ [])
    ∙ ap (λ (rest : List ℕ). lines_behind a [] (take i H) ++ rest) (append-nil (line_behind a (take i H) e))

-- movements of one entry more
pub one_more : (a : AcctId) (H : List Entry) (e : Entry) (m : Movement) → movement_of a e ≡ Some m → movements a (H ++ e ∷ []) ≡ movements a H ++ m ∷ []
one_more a H e m is = filter_map-append (movement_of a) H (e ∷ []) ∙ rw is refl

pub no_more : (a : AcctId) (H : List Entry) (e : Entry) → movement_of a e ≡ None → movements a (H ++ e ∷ []) ≡ movements a H
no_more a H e is = filter_map-append (movement_of a) H (e ∷ []) ∙ rw is (append-nil (movements a H))

-- ---- as a function of the movements

-- the lines of movements, behind so many and with this balance before them
abbrev pub tell : ℕ → ℕ → List Movement → List ℕ
tell n b [] = []
tell n b (m ∷ ms) = line (n + 1) m (after b m) ++ tell (n + 1) (after b m) ms

-- the text of movements
abbrev pub text_of : AcctId → List Movement → List ℕ
text_of a ms = heading a ++ (tell 0 0 ms ++ closing (fold after 0 ms))

-- the parts of a Legal list at one of its entries
record Parts (before : List Entry) (e : Entry) : Type 0 where
  pub front : Legal before
  pub next : LegalAfter before e
  pub longer : Legal (before ++ e ∷ [])

parts : (before : List Entry) (e : Entry) (rest : List Entry) → Legal (before ++ e ∷ rest) → Parts before e
parts before e rest legal = record {
  front = subst Legal (take_at before (e ∷ rest) (length before) refl) (front_legal (before ++ e ∷ rest) (length before) legal);
  next = subst (λ (B : List Entry). LegalAfter B e) (take_at before (e ∷ rest) (length before) refl)
      (subst (λ (x : Entry). LegalAfter (take (length before) (before ++ e ∷ rest)) x) (get_or_at before e rest e (length before) refl) (legal.each (length before) (omega (arith, length-append before (e ∷ rest))) e));
  longer = subst Legal (take_at (before ++ e ∷ []) rest (length (before ++ e ∷ [])) refl)
      (front_legal ((before ++ e ∷ []) ++ rest) (length (before ++ e ∷ [])) (subst Legal (sym (append_assoc before (e ∷ []) rest)) legal));
}

-- what stands of the rest of a Legal list is told by its movements alone, and so is its balance
record Told (a : AcctId) (before rest : List Entry) : Type 0 where
  pub lines : lines_behind a before rest ≡ tell (length (movements a before)) (balance before a) (movements a rest)
  pub ends : balance (before ++ rest) a ≡ fold after (balance before a) (movements a rest)

told : (a : AcctId) (before rest : List Entry) → Legal (before ++ rest) → Told a before rest
told a before [] legal = record { lines = refl; ends = ap (λ (B : List Entry). balance B a) (append-nil before) }
told a before (e ∷ rest) legal = part (told a (before ++ e ∷ []) rest (subst Legal (sym (append_assoc before (e ∷ []) rest)) legal)) (movement_of a e) refl where
  at : Parts before e
  at = parts before e rest legal

  same : balance (before ++ e ∷ rest) a ≡ balance ((before ++ e ∷ []) ++ rest) a
  same = ap (λ (B : List Entry). balance B a) (sym (append_assoc before (e ∷ []) rest))

  part : Told a (before ++ e ∷ []) rest → (x : Option Movement) → movement_of a e ≡ x → Told a before (e ∷ rest)
  part behind None none =
      let b : balance (before ++ e ∷ []) a ≡ balance before a = stays before e at.front at.next a none in
      record {
        lines = rw none (behind.lines ∙ ap₂ (λ (n b : ℕ). tell n b (movements a rest)) (ap length (no_more a before e none)) b);
        ends = rw none (same ∙ behind.ends ∙ ap (λ (b : ℕ). fold after b (movements a rest)) b);
      }
  part behind (Some m) is =
      let b : balance (before ++ e ∷ []) a ≡ after (balance before a) m = (moves before e at.front at.next at.longer a m is).2 in
      let n : length (movements a (before ++ e ∷ [])) ≡ length (movements a before) + 1 = ap length (one_more a before e m is) ∙ length_push (movements a before) m in
      record {
        lines = rw is (ap₂ (λ (x y : List ℕ). x ++ y) (ap (λ (c : ℕ). line (length (movements a before) + 1) m c) b)
            (behind.lines ∙ ap₂ (λ (n b : ℕ). tell n b (movements a rest)) n b));
        ends = rw is (same ∙ behind.ends ∙ ap (λ (b : ℕ). fold after b (movements a rest)) b);
      }

pub told_by_movements : (H : List Entry) → Legal H → (a : AcctId) → statement a H ≡ text_of a (movements a H)
told_by_movements H legal a = let all : Told a [] H = told a [] H legal in
    ap₂ (λ (lines : List ℕ) (b : ℕ). heading a ++ (lines ++ closing b)) all.lines all.ends

pub balance_told : (H : List Entry) → Legal H → (a : AcctId) → balance H a ≡ fold after 0 (movements a H)
balance_told H legal a = (told a [] H legal).ends

-- ---- one line

grouped : (h l x r c : List ℕ) → h ++ ((l ++ (x ++ r)) ++ c) ≡ (h ++ l) ++ (x ++ (r ++ c))
grouped h l x r c = simp append_assoc refl

pub each_line : (a : AcctId) (before : List Entry) (e : Entry) (more : List Entry) (m : Movement) → movement_of a e ≡ Some m
    → statement a (before ++ e ∷ more)
    ≡ (heading a ++ lines_behind a [] before) ++ (line (length (movements a before) + 1) m (balance (before ++ e ∷ []) a)
    ++ (lines_behind a (before ++ e ∷ []) more ++ closing (balance (before ++ e ∷ more) a)))
each_line a before e more m is =
    let h : List ℕ = heading a in
    let c : List ℕ = closing (balance (before ++ e ∷ more) a) in
    let r : List ℕ = lines_behind a (before ++ e ∷ []) more in
    let b : ℕ = balance (before ++ e ∷ []) a in
    let n : ℕ = length (movements a before) + 1 in
    ap (λ (xs : List ℕ). h ++ (xs ++ c)) (lines_append a [] before (e ∷ more))
    ∙ ap (λ (x : Option Movement). h ++ ((lines_behind a [] before ++ (told_of n x b ++ r)) ++ c)) is
    ∙ grouped h (lines_behind a [] before) (line n m b) r c

pub closes : (a : AcctId) (H : List Entry) → (front : List ℕ) × (statement a H ≡ front ++ closing (balance H a))
closes a H = (heading a ++ lines_behind a [] H, sym (append_assoc (heading a) (lines_behind a [] H) (closing (balance H a))))

pub equal_texts : (G H : List Entry) → Legal G → Legal H → (a : AcctId) → movements a G ≡ movements a H → statement a G ≡ statement a H
equal_texts G H first second a same = told_by_movements G first a ∙ ap (λ (ms : List Movement). text_of a ms) same ∙ sym (told_by_movements H second a)
