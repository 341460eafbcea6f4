-- Fields that may be absent, as rows: the key of a receipt, and the numbers that it shows.
use Rattle.std.proofs.Common.{◌≡◌, ◌↔◌, ◌⊎◌, inl, inr, ℕ, ◌+◌, ◌<◌, ◌^◌, Bool, true, false, ◌==◌, cond, List, ◌∷◌, ◌++◌, length, refl, sym, ap, subst, ◌∙◌, arith}
use Rattle.std.specs.Prelude.{Option, Some, None, IsSome, IfSome, bytes_eq}
use Rattle.std.specs.Bool.{then_some}
use Rattle.std.proofs.lemmas.Bool.{eqb-true, eqb-false, eq-eqb, ne_eqb}
use Rattle.std.proofs.lemmas.Slice.Eq.{bytes_eq-Decides}
use Rattle.nb_units.specs.Fields.{be8}
use Rattle.nb_units.specs.Laws.{StandsAt}
use Rattle.nb_units.proofs.Rows.{Row, IsRow, ◌then◌, then_row, ◌&◌, and_row, tested, tested_row, byte, byte_row, number8, number8_row, raw, raw_row}
use Rattle.nb_endorse.specs.declared.receipt.TheConstants.{PAID_CODE, ABSENT, PRESENT, NO_KEY}
use Rattle.nb_endorse.specs.Spelling.{key_bytes, shown_bytes}
use Rattle.nb_endorse.specs.Reading.{key_flag, may_show, may_hold}

-- ---- a row whose value is seen as another

-- the same fields, of which something else is made
abbrev pub seen_as : {A B : Type 0} → Row A → (A → B) → (B → List ℕ) → (ℕ → B → ℕ) → (B → Type 0) → Row B
seen_as f view spelled behind fits = record { spelled = spelled; behind = behind; fits = fits; read = λ R bytes place next. f.read R bytes place (λ x. next (view x)) }

pub seen_row : {A B : Type 0} (f : Row A) (view : A → B) (spelled : B → List ℕ) (behind : ℕ → B → ℕ) (fits : B → Type 0) → IsRow f
    → ((place : ℕ) (y : B) → fits y → behind place y ≡ place + length (spelled y))
    → ((x : A) → f.fits x → fits (view x) × (f.spelled x ≡ spelled (view x)))
    → ((y : B) → fits y → (x : A) × (f.fits x) × (view x ≡ y))
    → IsRow (seen_as f view spelled behind fits)
seen_row f view spelled behind fits row long to from = record {
  long = long;
  found = λ R bytes place next y are e.
      let a = row.found R bytes place (λ x. next (view x)) y are e in
      let b = to a.0 a.1 in
      (view a.0, b.0, subst (λ (s : List ℕ). StandsAt s bytes place) b.1 a.2, a.3);
  reads = λ R bytes place next y is s.
      let a = from y is in
      let same : f.spelled a.0 ≡ spelled y = (to a.0 a.1).1 ∙ ap spelled a.2 in
      row.reads R bytes place (λ x. next (view x)) a.0 a.1 (subst (λ (t : List ℕ). StandsAt t bytes place) (sym same) s) ∙ ap next a.2;
}

-- ---- the key of a receipt

abbrev key_fields : ℕ → Row (ℕ × List ℕ)
key_fields code = tested byte (λ has. has == key_flag code) then (λ has. tested (raw 32) (λ key. may_hold has (bytes_eq key NO_KEY)))

abbrev pub key_given : ℕ × List ℕ → Option (List ℕ)
key_given p = then_some (p.0 == PRESENT) p.1

-- there is a key exactly where the order was paid
abbrev pub KeyFits : ℕ → Option (List ℕ) → Type 0
KeyFits code key = (IsSome key ↔ (code ≡ PAID_CODE)) × IfSome key (λ k. length k ≡ 32)

abbrev pub key_row : ℕ → Row (Option (List ℕ))
key_row code = seen_as (key_fields code) key_given key_bytes (λ place key. place + 33) (KeyFits code)

key_long : (code place : ℕ) (key : Option (List ℕ)) → KeyFits code key → place + 33 ≡ place + length (key_bytes key)
key_long code place None fits = refl
key_long code place (Some key) fits = omega (arith, fits.1)

key_to_at : (paid : Bool) (code : ℕ) (key : List ℕ) → (code == PAID_CODE) ≡ paid → length key ≡ 32 → may_hold (cond paid PRESENT ABSENT) (bytes_eq key NO_KEY) ≡ true
    → KeyFits code (key_given (cond paid PRESENT ABSENT, key)) × (cond paid PRESENT ABSENT ∷ key ≡ key_bytes (key_given (cond paid PRESENT ABSENT, key)))
unfolding may_hold
key_to_at true code key paid long holds = (((λ is. eqb-true code PAID_CODE paid, λ is. refl), long), refl)
key_to_at false code key paid long holds = (((λ is. absurd cc, λ is. absurd (eqb-false code PAID_CODE paid is)), tt), ap (λ (k : List ℕ). ABSENT ∷ k) ((bytes_eq-Decides key NO_KEY).0 holds))

key_to : (code : ℕ) (p : ℕ × List ℕ) → (key_fields code).fits p → KeyFits code (key_given p) × ((key_fields code).spelled p ≡ key_bytes (key_given p))
key_to code p fits =
    let e : p.0 ≡ key_flag code = eqb-true p.0 (key_flag code) fits.0.1 in
    subst (λ (has : ℕ). KeyFits code (key_given (has, p.1)) × (has ∷ p.1 ≡ key_bytes (key_given (has, p.1)))) (sym e)
    (key_to_at (code == PAID_CODE) code p.1 refl fits.1.0 (subst (λ (has : ℕ). may_hold has (bytes_eq p.1 NO_KEY) ≡ true) e fits.1.1))

key_from : (code : ℕ) (key : Option (List ℕ)) → KeyFits code key → (p : ℕ × List ℕ) × ((key_fields code).fits p) × (key_given p ≡ key)
unfolding may_hold
key_from code None fits = ((ABSENT, NO_KEY), ((omega arith, rw (ne_eqb code PAID_CODE (λ is. let h = fits.0.1 is in absurd cc)) refl), (refl, refl)), refl)
key_from code (Some key) fits = ((PRESENT, key), ((omega arith, rw (eq-eqb code PAID_CODE (fits.0.0 refl)) refl), (fits.1, refl)), refl)

pub is_key_row : (code : ℕ) → IsRow (key_row code)
is_key_row code =
    seen_row (key_fields code) key_given key_bytes (λ place key. place + 33) (KeyFits code)
    (then_row (tested byte (λ has. has == key_flag code)) (λ has. tested (raw 32) (λ key. may_hold has (bytes_eq key NO_KEY))) (tested_row byte (λ has. has == key_flag code) byte_row) (λ has. tested_row (raw 32) (λ key. may_hold has (bytes_eq key NO_KEY)) (raw_row 32)))
    (key_long code) (key_to code) (key_from code)

-- ---- the numbers that a receipt shows

abbrev shown_fields : ℕ → Row (ℕ × (ℕ × ℕ))
shown_fields code = tested byte (λ has. may_show code has) then (λ has. tested number8 (λ a. may_hold has (a == 0)) & tested number8 (λ b. may_hold has (b == 0)))

abbrev pub shown_given : ℕ × (ℕ × ℕ) → Option (ℕ × ℕ)
shown_given p = then_some (p.0 == PRESENT) p.1

-- nothing is shown where the order was paid
abbrev pub ShownFits : ℕ → Option (ℕ × ℕ) → Type 0
ShownFits code shown = (code ≡ PAID_CODE → shown ≡ None) × IfSome shown (λ n. (n.0 < 2 ^ 64) × (n.1 < 2 ^ 64))

abbrev pub shown_row : ℕ → Row (Option (ℕ × ℕ))
shown_row code = seen_as (shown_fields code) shown_given shown_bytes (λ place shown. place + 17) (ShownFits code)

shown_long : (code place : ℕ) (shown : Option (ℕ × ℕ)) → ShownFits code shown → place + 17 ≡ place + length (shown_bytes shown)
shown_long code place None fits = refl
shown_long code place (Some n) fits = refl

-- the byte before the numbers
shown_has : (code has : ℕ) → may_show code has ≡ true → (has ≡ ABSENT) ⊎ ((has ≡ PRESENT) × (code ≡ PAID_CODE → ⊥))
unfolding may_show
shown_has code has e = grind (arith, eqb-true, eqb-false)

shown_to_at : (code has a b : ℕ) → (has ≡ ABSENT) ⊎ ((has ≡ PRESENT) × (code ≡ PAID_CODE → ⊥)) → a < 2 ^ 64 → b < 2 ^ 64 → may_hold has (a == 0) ≡ true → may_hold has (b == 0) ≡ true
    → ShownFits code (shown_given (has, (a, b))) × ((has ∷ be8 a ++ be8 b) ≡ shown_bytes (shown_given (has, (a, b))))
unfolding may_hold
shown_to_at code has a b (inl e) a_fits b_fits a_is b_is =
    let a_zero : a ≡ 0 = eqb-true a 0 (subst (λ (h : ℕ). may_hold h (a == 0) ≡ true) e a_is) in
    let b_zero : b ≡ 0 = eqb-true b 0 (subst (λ (h : ℕ). may_hold h (b == 0) ≡ true) e b_is) in
    subst (λ (h : ℕ). ShownFits code (shown_given (h, (a, b))) × ((h ∷ be8 a ++ be8 b) ≡ shown_bytes (shown_given (h, (a, b))))) (sym e)
    (((λ is. refl), tt), ap (λ (x : ℕ). ABSENT ∷ be8 x ++ be8 b) a_zero ∙ ap (λ (x : ℕ). ABSENT ∷ be8 0 ++ be8 x) b_zero)
shown_to_at code has a b (inr e) a_fits b_fits a_is b_is =
    subst (λ (h : ℕ). ShownFits code (shown_given (h, (a, b))) × ((h ∷ be8 a ++ be8 b) ≡ shown_bytes (shown_given (h, (a, b))))) (sym e.0)
    (((λ is. absurd (e.1 is)), (a_fits, b_fits)), refl)

shown_to : (code : ℕ) (p : ℕ × (ℕ × ℕ)) → (shown_fields code).fits p → ShownFits code (shown_given p) × ((shown_fields code).spelled p ≡ shown_bytes (shown_given p))
shown_to code p fits = shown_to_at code p.0 p.1.0 p.1.1 (shown_has code p.0 fits.0.1) fits.1.0.0 fits.1.1.0 fits.1.0.1 fits.1.1.1

shown_from : (code : ℕ) (shown : Option (ℕ × ℕ)) → ShownFits code shown → (p : ℕ × (ℕ × ℕ)) × ((shown_fields code).fits p) × (shown_given p ≡ shown)
unfolding may_hold may_show
shown_from code None fits = ((ABSENT, (0, 0)), ((omega arith, refl), ((omega arith, refl), (omega arith, refl))), refl)
shown_from code (Some n) fits = ((PRESENT, n), ((omega arith, rw (ne_eqb code PAID_CODE (λ is. let h = fits.0 is in absurd cc)) refl), ((fits.1.0, refl), (fits.1.1, refl))), refl)

pub is_shown_row : (code : ℕ) → IsRow (shown_row code)
is_shown_row code =
    seen_row (shown_fields code) shown_given shown_bytes (λ place shown. place + 17) (ShownFits code)
    (then_row (tested byte (λ has. may_show code has)) (λ has. tested number8 (λ a. may_hold has (a == 0)) & tested number8 (λ b. may_hold has (b == 0)))
    (tested_row byte (λ has. may_show code has) byte_row)
    (λ has. and_row (tested_row number8 (λ a. may_hold has (a == 0)) number8_row) (tested_row number8 (λ b. may_hold has (b == 0)) number8_row)))
    (shown_long code) (shown_to code) (shown_from code)
