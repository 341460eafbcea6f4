-- A tally grows by one entry as its counts do.
use Rattle.std.proofs.Common.{◌≡◌, ℕ, ◌+◌, ◌<◌, ◌≤◌, ◌^◌, Bool, cond, List, [], ◌∷◌, ◌++◌, length, take, get_or, refl, sym, ap, ◌∙◌, arith, append-nil, drop, Option, None, inl, inr, ◌⊎◌}
use Rattle.std.specs.List.{count_by, filter_map}
use Rattle.std.specs.Option.{option_to_list}
use Rattle.std.proofs.lemmas.List.{take_more, length-take}
use Rattle.std.proofs.Math.ListN.{take-append-drop}
use Rattle.std.proofs.lemmas.List.Sums.{sum_by-append, count_by-le-length}
use Rattle.std.proofs.lemmas.List.Elements.{filter_map-append}
use Rattle.nb_entry.specs.declared.entry.Entry.{Entry}
use Rattle.nb_entry.specs.declared.entry.Entry.TheVariants.{Enrol, Fund, Paid, Charged, Refused}
use Rattle.nb_book.specs.Money.{fund, total}
use Rattle.nb_turns.specs.declared.line.Line.{Line}
use Rattle.nb_turns.specs.declared.line.Line.TheVariants.{Commit, Adopted, Doubt, Fault}
use Rattle.nb_turns.specs.Lines.{entry_of}
use Rattle.nb_answers.specs.declared.tally.Tally.{Tally}
use Rattle.nb_answers.specs.Drill.{is_paid, is_refused, recorded, tally, and_one}

same : (p q r s t u : ℕ) → p ≡ q → r ≡ s → t ≡ u → (let a : Tally = record { paid = p; refused = r; total = t } in a) ≡ record { paid = q; refused = s; total = u }
same p q r s t u e f g = rw (e, f, g) refl

counted : (test : Entry → Bool) (es : List Entry) (e : Entry) → count_by test (es ++ e ∷ []) ≡ count_by test es + cond (test e) 1 0
counted test es e =
    let both : count_by test (es ++ e ∷ []) ≡ count_by test es + (0 + cond (test e) 1 0) = sum_by-append (λ x. cond (test x) 1 0) es (e ∷ []) in
    omega (arith, both)

summed : (es : List Entry) (e : Entry) → total (es ++ e ∷ []) ≡ total es + fund e
summed es e =
    let both : total (es ++ e ∷ []) ≡ total es + (0 + fund e) = sum_by-append fund es (e ∷ []) in
    omega (arith, both)

pub one_more : (es : List Entry) (e : Entry) → tally (es ++ e ∷ []) ≡ and_one (tally es) e
one_more es (Enrol id role acct nonce key) =
    let e = Enrol id role acct nonce key in
    same _ _ _ _ _ _ (omega (arith, counted is_paid es e)) (omega (arith, counted is_refused es e)) (omega (arith, summed es e))
one_more es (Fund acct amount reference) =
    let e = Fund acct amount reference in
    same _ _ _ _ _ _ (omega (arith, counted is_paid es e)) (omega (arith, counted is_refused es e)) (summed es e)
one_more es (Paid digest epoid consumer merchant product price cacct macct moment key) =
    let e = Paid digest epoid consumer merchant product price cacct macct moment key in
    same _ _ _ _ _ _ (counted is_paid es e) (omega (arith, counted is_refused es e)) (omega (arith, summed es e))
one_more es (Charged digest epoid consumer merchant product price fee cacct macct moment key) =
    let e = Charged digest epoid consumer merchant product price fee cacct macct moment key in
    same _ _ _ _ _ _ (counted is_paid es e) (omega (arith, counted is_refused es e)) (omega (arith, summed es e))
one_more es (Refused digest epoid consumer merchant product price code a b moment) =
    let e = Refused digest epoid consumer merchant product price code a b moment in
    same _ _ _ _ _ _ (omega (arith, counted is_paid es e)) (counted is_refused es e) (omega (arith, summed es e))

-- one line more records its entry, if it records one
pub line_more : (lines : List Line) (i : ℕ) (d : Line) → i < length lines → recorded (take (i + 1) lines) ≡ recorded (take i lines) ++ option_to_list (entry_of (get_or lines i d))
line_more lines i d within =
    ap recorded (take_more lines i d within) ∙ filter_map-append entry_of (take i lines) (get_or lines i d ∷ []) ∙ ap (λ (es : List Entry). recorded (take i lines) ++ es) (alone (get_or lines i d))
  where
    alone : (line : Line) → filter_map entry_of (line ∷ []) ≡ option_to_list (entry_of line)
    alone (Commit by turn entry) = refl
    alone (Adopted by turn entry) = refl
    alone (Doubt by turn entry) = refl
    alone (Fault by turn before after) = refl

-- lines record at most as many entries as they are
few : (lines : List Line) → length (recorded lines) ≤ length lines
few [] = omega arith
few (Commit by turn entry ∷ lines) = omega (arith, few lines)
few (Adopted by turn entry ∷ lines) = omega (arith, few lines)
few (Doubt by turn entry ∷ lines) = omega (arith, few lines)
few (Fault by turn before after ∷ lines) = omega (arith, few lines)

-- what a tally of the first lines may be
pub small : (lines : List Line) (i : ℕ) → (count_by is_paid (recorded (take i lines)) ≤ length (take i lines)) × (count_by is_refused (recorded (take i lines)) ≤ length (take i lines))
small lines i = (
  omega (arith, few (take i lines), count_by-le-length is_paid (recorded (take i lines))),
  omega (arith, few (take i lines), count_by-le-length is_refused (recorded (take i lines))),
)

-- a line of an entry that stands
pub line_stands : (lines : List Line) (i : ℕ) (d : Line) (entry : Entry) → i < length lines
    → ((by turn : ℕ) × (get_or lines i d ≡ Commit by turn entry)) ⊎ ((by turn : ℕ) × (get_or lines i d ≡ Adopted by turn entry))
    → recorded (take (i + 1) lines) ≡ recorded (take i lines) ++ entry ∷ []
line_stands lines i d entry within (inl is) = line_more lines i d within ∙ ap (λ (line : Line). recorded (take i lines) ++ option_to_list (entry_of line)) is.2
line_stands lines i d entry within (inr is) = line_more lines i d within ∙ ap (λ (line : Line). recorded (take i lines) ++ option_to_list (entry_of line)) is.2

-- another line
line_passes : (lines : List Line) (i : ℕ) (d line : Line) → i < length lines → get_or lines i d ≡ line → entry_of line ≡ None → recorded (take (i + 1) lines) ≡ recorded (take i lines)
line_passes lines i d line within is none =
    line_more lines i d within ∙ ap (λ (other : Line). recorded (take i lines) ++ option_to_list (entry_of other)) is
    ∙ ap (λ (found : Option Entry). recorded (take i lines) ++ option_to_list found) none ∙ append-nil (recorded (take i lines))

pub line_other : (lines : List Line) (i : ℕ) (d : Line) → i < length lines
    → ((by turn : ℕ) × (entry : Entry) × (get_or lines i d ≡ Doubt by turn entry)) ⊎ ((by turn before after : ℕ) × (get_or lines i d ≡ Fault by turn before after))
    → recorded (take (i + 1) lines) ≡ recorded (take i lines)
line_other lines i d within (inl is) = line_passes lines i d (Doubt is.0 is.1 is.2) within is.3 refl
line_other lines i d within (inr is) = line_passes lines i d (Fault is.0 is.1 is.2 is.3) within is.4 refl

-- the first lines bring in at most what all do
pub first_bring : (lines : List Line) (n : ℕ) → total (recorded (take n lines)) ≤ total (recorded lines)
first_bring lines n =
    let split : recorded lines ≡ recorded (take n lines) ++ recorded (drop n lines) = ap recorded (sym (take-append-drop n lines)) ∙ filter_map-append entry_of (take n lines) (drop n lines) in
    omega (arith, ap total split, sum_by-append fund (recorded (take n lines)) (recorded (drop n lines)))

-- what is counted of one line more fits
pub fits : (lines : List Line) (i : ℕ) (entry : Entry) (t : Tally) → i < length lines → length lines < 2 ^ 64 → t ≡ tally (recorded (take i lines)) → total (recorded lines) < 2 ^ 64
    → recorded (take (i + 1) lines) ≡ recorded (take i lines) ++ entry ∷ [] → (t.paid + 1 < 2 ^ 64) × (t.refused + 1 < 2 ^ 64) × (t.total + fund entry < 2 ^ 64)
fits lines i entry t within long is small_all more =
    let s = small lines i in (
      omega (arith, ap (λ (u : Tally). u.paid) is, s.0, length-take i lines, within, long),
      omega (arith, ap (λ (u : Tally). u.refused) is, s.1, length-take i lines, within, long),
      omega (arith, ap (λ (u : Tally). u.total) is, ap total more, summed (recorded (take i lines)) entry, first_bring lines (i + 1), small_all),
    )
