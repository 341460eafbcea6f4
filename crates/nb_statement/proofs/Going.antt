-- One entry after another: its line is put, the number and the balance go on.
use Rattle.std.proofs.Common.{◌≡◌, ℕ, ◌+◌, ◌<◌, ◌≤◌, ◌^◌, List, [], ◌∷◌, ◌++◌, Option, Some, None, length, take, drop, refl, sym, ap, ap₂, ◌∙◌, subst, arith, append_assoc, append-nil}
use Rattle.std.proofs.lemmas.List.{take_at, length_push}
use Rattle.std.proofs.Math.ListN.{take-append-drop}
use Rattle.std.specs.List.{slice_get}
use Rattle.nb_units.specs.declared.ids.AcctId.{AcctId}
use Rattle.nb_entry.specs.declared.entry.Entry.{Entry}
use Rattle.nb_book.specs.Money.{balance}
use Rattle.nb_book.specs.Legal.{Legal}
use Rattle.nb_book.proofs.Growing.{front_legal}
use Rattle.nb_statement.specs.declared.movement.Movement.{Movement}
use Rattle.nb_statement.specs.Movements.{after, came, went, movement_of, movements}
use Rattle.nb_statement.specs.Statement.{SentPart, Stands, line, line_behind, lines_behind, told_of}
use Rattle.nb_statement.proofs.Moving.{moves, stays}
use Rattle.nb_statement.proofs.Telling.{lines_append, lines_next, next_part, next_legal, one_more, no_more}
use Rattle.nb_statement.proofs.Standing.{part_longer, part_on, stands_on}

-- the first part of a Legal list is Legal
pub first_part : (H D : List Entry) → Legal (H ++ D) → Legal H
first_part H D legal = subst Legal (take_at H D (length H) refl) (front_legal (H ++ D) (length H) legal)

-- what the loop knows of an entry that moves money
pub record Here (a : AcctId) (H : List Entry) (i : ℕ) (e : Entry) (m : Movement) (n b : ℕ) : Type 0 where
  pub legal : Legal H
  pub there : slice_get H i ≡ Some e
  pub is : movement_of a e ≡ Some m
  pub number : n ≡ length (movements a (take i H))
  pub behind : b ≡ balance (take i H) a

moved : (a : AcctId) (H : List Entry) (i : ℕ) (e : Entry) (m : Movement) (n b : ℕ) → Here a H i e m n b
    → (balance (take i H) a + came m < 2 ^ 64) × (went m ≤ balance (take i H) a) × (balance (take i H ++ e ∷ []) a ≡ after (balance (take i H) a) m)
moved a H i e m n b at =
    moves (take i H) e (front_legal H i at.legal) (next_legal H i e at.legal at.there) (subst Legal (next_part H i e at.there) (front_legal H (i + 1) at.legal)) a m at.is

pub fits : (a : AcctId) (H : List Entry) (i : ℕ) (e : Entry) (m : Movement) (n b : ℕ) → Here a H i e m n b → (b + came m < 2 ^ 64) × (went m ≤ b)
fits a H i e m n b at = let all = moved a H i e m n b at in (omega (arith, at.behind, all.0), omega (arith, at.behind, all.1))

-- the balance behind it
pub balance_next : (a : AcctId) (H : List Entry) (i : ℕ) (e : Entry) (m : Movement) (n b : ℕ) → Here a H i e m n b → after b m ≡ balance (take (i + 1) H) a
balance_next a H i e m n b at =
    ap (λ (x : ℕ). after x m) at.behind ∙ sym (moved a H i e m n b at).2 ∙ ap (λ (B : List Entry). balance B a) (sym (next_part H i e at.there))

-- and the number
pub number_next : (a : AcctId) (H : List Entry) (i : ℕ) (e : Entry) (m : Movement) (n b : ℕ) → Here a H i e m n b → n + 1 ≡ length (movements a (take (i + 1) H))
number_next a H i e m n b at =
    ap (λ (x : ℕ). x + 1) at.number ∙ sym (length_push (movements a (take i H)) m) ∙ ap length (sym (one_more a (take i H) e m at.is))
    ∙ ap (λ (B : List Entry). length (movements a B)) (sym (next_part H i e at.there))

-- its line
own_line : (a : AcctId) (H : List Entry) (i : ℕ) (e : Entry) (m : Movement) (n b : ℕ) → Here a H i e m n b → line (n + 1) m (after b m) ≡ line_behind a (take i H) e
own_line a H i e m n b at =
    ap₂ (λ (x y : ℕ). line (x + 1) m y) at.number (ap (λ (x : ℕ). after x m) at.behind ∙ sym (moved a H i e m n b at).2)
    ∙ ap (λ (x : Option Movement). told_of (length (movements a (take i H)) + 1) x (balance (take i H ++ e ∷ []) a)) (sym at.is)

-- the lines up to it
lines_here : (a : AcctId) (H : List Entry) (i : ℕ) (e : Entry) (m : Movement) (n b : ℕ) (w bytes : List ℕ) → Here a H i e m n b → bytes ≡ line (n + 1) m (after b m)
    → (w ++ lines_behind a [] (take i H)) ++ bytes ≡ w ++ lines_behind a [] (take (i + 1) H)
lines_here a H i e m n b w bytes at is =
    append_assoc w (lines_behind a [] (take i H)) bytes
    ∙ ap (λ (xs : List ℕ). w ++ (lines_behind a [] (take i H) ++ xs)) (is ∙ own_line a H i e m n b at)
    ∙ ap (λ (xs : List ℕ). w ++ xs) (sym (lines_next a H i e at.there))

-- they were put
pub put_on : (a : AcctId) (H : List Entry) (i : ℕ) (e : Entry) (m : Movement) (n b : ℕ) (s t u : Option (List ℕ)) (w waited waits bytes : List ℕ) → Here a H i e m n b
    → bytes ≡ line (n + 1) m (after b m) → Stands s t waited (w ++ lines_behind a [] (take i H)) → Stands t u waits (waited ++ bytes)
    → Stands s u waits (w ++ lines_behind a [] (take (i + 1) H))
put_on a H i e m n b s t u w waited waits bytes at is first then =
    subst (λ (xs : List ℕ). Stands s u waits xs) (lines_here a H i e m n b w bytes at is) (stands_on s t u waited waits (w ++ lines_behind a [] (take i H)) bytes first then)

-- the lines of a list are those of its first entries, and then the others
lines_split : (a : AcctId) (H : List Entry) (i : ℕ) (w : List ℕ) → (w ++ lines_behind a [] (take i H)) ++ lines_behind a (take i H) (drop i H) ≡ w ++ lines_behind a [] H
lines_split a H i w =
    append_assoc w (lines_behind a [] (take i H)) (lines_behind a (take i H) (drop i H))
    ∙ ap (λ (xs : List ℕ). w ++ xs) (sym (lines_append a [] (take i H) (drop i H)) ∙ ap (λ (B : List Entry). lines_behind a [] B) (take-append-drop i H))

-- or a write failed
pub put_failed : (a : AcctId) (H : List Entry) (i : ℕ) (e : Entry) (m : Movement) (n b : ℕ) (s t u : Option (List ℕ)) (w waited bytes : List ℕ) → Here a H i e m n b
    → bytes ≡ line (n + 1) m (after b m) → Stands s t waited (w ++ lines_behind a [] (take i H)) → SentPart t u (waited ++ bytes) → SentPart s u (w ++ lines_behind a [] H)
put_failed a H i e m n b s t u w waited bytes at is first part =
    subst (λ (xs : List ℕ). SentPart s u xs) (lines_split a H (i + 1) w)
    (part_longer s u (w ++ lines_behind a [] (take (i + 1) H)) (lines_behind a (take (i + 1) H) (drop (i + 1) H))
    (subst (λ (xs : List ℕ). SentPart s u xs) (lines_here a H i e m n b w bytes at is) (part_on s t u waited (w ++ lines_behind a [] (take i H)) bytes first part)))

-- an entry that moves nothing leaves all as it is
pub record Same (a : AcctId) (H : List Entry) (i : ℕ) : Type 0 where
  pub lines : lines_behind a [] (take i H) ≡ lines_behind a [] (take (i + 1) H)
  pub number : length (movements a (take i H)) ≡ length (movements a (take (i + 1) H))
  pub behind : balance (take i H) a ≡ balance (take (i + 1) H) a

pub nothing_moved : (a : AcctId) (H : List Entry) (i : ℕ) (e : Entry) → Legal H → slice_get H i ≡ Some e → movement_of a e ≡ None → Same a H i
nothing_moved a H i e legal there none = record {
  lines = sym (lines_next a H i e there
      ∙ ap (λ (x : Option Movement). lines_behind a [] (take i H) ++ told_of (length (movements a (take i H)) + 1) x (balance (take i H ++ e ∷ []) a)) none
      ∙ append-nil (lines_behind a [] (take i H)));
  number = ap length (sym (no_more a (take i H) e none)) ∙ ap (λ (B : List Entry). length (movements a B)) (sym (next_part H i e there));
  behind = sym (stays (take i H) e (front_legal H i legal) (next_legal H i e legal there) a none) ∙ ap (λ (B : List Entry). balance B a) (sym (next_part H i e there));
}

pub same_stands : (a : AcctId) (H : List Entry) (i : ℕ) (s t : Option (List ℕ)) (w waits : List ℕ) → Same a H i → Stands s t waits (w ++ lines_behind a [] (take i H))
    → Stands s t waits (w ++ lines_behind a [] (take (i + 1) H))
same_stands a H i s t w waits same stands = subst (λ (xs : List ℕ). Stands s t waits (w ++ xs)) same.lines stands
