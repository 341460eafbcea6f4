-- Which accounts are known, and where the search of one stands.
use Rattle.std.proofs.Common.{◌≡◌, ℕ, zero, suc, ◌+◌, ◌<◌, Bool, true, false, ◌||◌, List, [], ◌∷◌, Option, Some, None, length, drop, refl, sym, ap, ◌∙◌, arith}
use Rattle.std.proofs.lemmas.Bool.{eqb-true, eqb-false, true≢false}
use Rattle.std.proofs.lemmas.Option.{same_Some}
use Rattle.std.specs.Prelude.{◌==◌}
use Rattle.std.specs.List.{slice_get}
use Rattle.std.specs.Option.{is_some}
use Rattle.nb_units.specs.declared.ids.AcctId.{AcctId}
use Rattle.nb_entry.specs.declared.entry.Entry.{Entry}
use Rattle.std.specs.Option.{option_or}
use Rattle.nb_book.specs.Searches.{first_from, holder_at, holder_in}
use Rattle.nb_book.specs.Laws.{opens}
use Rattle.nb_book.proofs.Counting.{tests_holder}
use Rattle.nb_book.proofs.Indexing.{none_of}
use Rattle.nb_units.specs.declared.ids.PartyId.{PartyId}
use Rattle.nb_statement.specs.Statement.{is_known, IsHeldByNobody}

-- what stands at a place is the first of what is left from there on
pub left_at : (H : List Entry) (i : ℕ) (e : Entry) → slice_get H i ≡ Some e → drop i H ≡ e ∷ drop (i + 1) H
left_at [] i e there = absurd cc
left_at (x ∷ H) zero e there = ap (λ (y : Entry). y ∷ H) (same_Some x e there)
left_at (x ∷ H) (suc i) e there = left_at H i e there ∙ ap (λ (n : ℕ). e ∷ drop n (x ∷ H)) (next i) where
  next : (n : ℕ) → suc (n + 1) ≡ suc n + 1
  next n = omega arith

-- an account that is not known is held by nobody, and one that is is not
pub unknown : (H : List Entry) (a : AcctId) → is_known H a ≡ false → IsHeldByNobody H a
unknown H a is = part (a.0 == 0) refl (is_some (holder_in H a)) refl is where
  part : (b : Bool) → (a.0 == 0) ≡ b → (c : Bool) → is_some (holder_in H a) ≡ c → (b || c) ≡ false → IsHeldByNobody H a
  part true first c second either = absurd cc
  part false first true second either = absurd cc
  part false first false second either = (eqb-false a.0 0 first, second)

pub known : (H : List Entry) (a : AcctId) → is_known H a ≡ true → IsHeldByNobody H a → ⊥
known H a is nobody = part (a.0 == 0) refl (is_some (holder_in H a)) refl is where
  part : (b : Bool) → (a.0 == 0) ≡ b → (c : Bool) → is_some (holder_in H a) ≡ c → (b || c) ≡ true → ⊥
  part true first c second either = nobody.0 (eqb-true a.0 0 first)
  part false first true second either = true≢false (sym second ∙ nobody.1)
  part false first false second either = absurd cc

-- a place within a list has something
pub stands_there : (H : List Entry) (i : ℕ) → i < length H → slice_get H i ≡ None → ⊥
stands_there [] i within none = absurd (omega (arith, within))
stands_there (x ∷ H) zero within none = absurd cc
stands_there (x ∷ H) (suc i) within none = stands_there H i (omega (arith, within)) none

-- the search of what is left from a place on is that of all
abbrev pub Searches : AcctId → List Entry → ℕ → Type 0
Searches a H i = first_from (holder_at a) i (drop i H) ≡ holder_in H a

pub first_left : (a : AcctId) (H : List Entry) (i : ℕ) (e : Entry) → slice_get H i ≡ Some e → Searches a H i
    → option_or (holder_at a i e) (first_from (holder_at a) (i + 1) (drop (i + 1) H)) ≡ holder_in H a
first_left a H i e there search = sym (ap (λ (es : List Entry). first_from (holder_at a) i es) (left_at H i e there)) ∙ search

pub search_on : (a : AcctId) (H : List Entry) (i : ℕ) (e : Entry) → slice_get H i ≡ Some e → opens a e ≡ false → Searches a H i → Searches a H (i + 1)
search_on a H i e there other search =
    let none : holder_at a i e ≡ None = none_of (holder_at a i e) (tests_holder a i e ∙ other) in
    sym (ap (λ (x : Option PartyId). option_or x (first_from (holder_at a) (i + 1) (drop (i + 1) H))) none) ∙ first_left a H i e there search

pub search_found : (a : AcctId) (H : List Entry) (i : ℕ) (e : Entry) → slice_get H i ≡ Some e → opens a e ≡ true → Searches a H i → is_some (holder_in H a) ≡ true
search_found a H i e there opened search =
    sym (ap (λ (x : Option PartyId). is_some x) (first_left a H i e there search))
    ∙ there_first (holder_at a i e) (first_from (holder_at a) (i + 1) (drop (i + 1) H)) (tests_holder a i e ∙ opened)
  where
    there_first : (x y : Option PartyId) → is_some x ≡ true → is_some (option_or x y) ≡ true
    there_first None y is = absurd cc
    there_first (Some p) y is = refl

pub search_ended : (a : AcctId) (H : List Entry) → Searches a H (length H) → is_some (holder_in H a) ≡ false
search_ended a H search =
    sym (ap (λ (x : Option PartyId). is_some x) (sym (ap (λ (es : List Entry). first_from (holder_at a) (length H) es) (none_left H)) ∙ search))
  where
    none_left : (es : List Entry) → drop (length es) es ≡ []
    none_left [] = refl
    none_left (x ∷ es) = none_left es
