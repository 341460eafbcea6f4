-- An order that was found was settled, with a reason that a receipt may have.
use Rattle.std.proofs.Common.{◌≡◌, ℕ, ◌+◌, Bool, true, false, cond, List, [], ◌∷◌, ◌++◌, Some, None, IsNone, IfSome, refl, sym, ap, subst}
use Rattle.std.proofs.lemmas.Option.{same_Some}
use Rattle.std.specs.List.{AllByRecursion}
use Rattle.std.specs.Option.{option_and_then, option_or}
use Rattle.nb_units.specs.declared.epoid.Epoid.{Epoid}
use Rattle.nb_entry.specs.declared.entry.Entry.{Entry}
use Rattle.nb_entry.specs.declared.entry.Entry.TheVariants.{Enrol, Fund, Paid, Charged, Refused}
use Rattle.nb_book.specs.declared.kept.Kept.{Kept}
use Rattle.nb_book.specs.Searches.{first_from, settles, order_at, order_in}
use Rattle.nb_book.specs.Legal.{LegalAfter, Legal}
use Rattle.nb_book.proofs.Growing.{along}
use Rattle.nb_escrow.specs.declared.settlement.PaymentOutcome.{PaymentOutcome}
use Rattle.nb_escrow.specs.Settlements.{IsPaymentOutcome, outcome_in, settlement_at, settlement_of, settlement_with}
use Rattle.nb_escrow.proofs.Paying.{reason_code}

-- the reason of each entry of a Legal list is one that receipts have
abbrev HasLawfulOutcome : Entry → Type 0
HasLawfulOutcome e = IfSome (settlement_at 0 e) (λ s. IsPaymentOutcome s.outcome)

legal_outcome : (H : List Entry) (e : Entry) → LegalAfter H e → HasLawfulOutcome e
legal_outcome H (Enrol id role acct nonce key) legal = tt
legal_outcome H (Fund acct amount reference) legal = tt
legal_outcome H (Paid digest epoid consumer merchant product price cacct macct moment key) legal = tt
legal_outcome H (Charged digest epoid consumer merchant product price fee cacct macct moment key) legal = tt
legal_outcome H (Refused digest epoid consumer merchant product price code a b moment) legal = reason_code H epoid consumer merchant price code a b moment legal.2

one_more : (H : List Entry) (e : Entry) → AllByRecursion HasLawfulOutcome H → HasLawfulOutcome e → AllByRecursion HasLawfulOutcome (H ++ e ∷ [])
one_more [] e all one = (one, tt)
one_more (x ∷ H) e all one = (all.0, one_more H e all.1 one)

outcomes : (H : List Entry) → Legal H → AllByRecursion HasLawfulOutcome H
outcomes = along (λ H. AllByRecursion HasLawfulOutcome H) tt (λ H e legal next all. one_more H e all (legal_outcome H e next))

-- the entry that is found settles the order
pub settles_found : (p : Epoid) (at : ℕ) (es : List Entry) (kept : Kept) → first_from (order_at p) at es ≡ Some kept → settles p kept.entry ≡ true
settles_found p at [] kept found = absurd cc
settles_found p at (e ∷ es) kept found = part (settles p e) refl found (λ rest. settles_found p (at + 1) es kept rest)
  where
    part : (b : Bool) → settles p e ≡ b → option_or (cond b (Some (record { at = at; entry = e })) None) (first_from (order_at p) (at + 1) es) ≡ Some kept
        → (first_from (order_at p) (at + 1) es ≡ Some kept → settles p kept.entry ≡ true) → settles p kept.entry ≡ true
    part true is found rest =
        let same : e ≡ kept.entry = ap (λ (k : Kept). k.entry) (same_Some (record { at = at; entry = e }) kept found) in
        subst (λ (x : Entry). settles p x ≡ true) same is
    part false is found rest = rest found

-- and its reason is one that receipts have
outcome_of_found : (p : Epoid) (at : ℕ) (es : List Entry) (kept : Kept) → AllByRecursion HasLawfulOutcome es → first_from (order_at p) at es ≡ Some kept → HasLawfulOutcome kept.entry
outcome_of_found p at [] kept all found = absurd cc
outcome_of_found p at (e ∷ es) kept all found = part (settles p e) found (λ rest. outcome_of_found p (at + 1) es kept all.1 rest)
  where
    part : (b : Bool) → option_or (cond b (Some (record { at = at; entry = e })) None) (first_from (order_at p) (at + 1) es) ≡ Some kept
        → (first_from (order_at p) (at + 1) es ≡ Some kept → HasLawfulOutcome kept.entry) → HasLawfulOutcome kept.entry
    part true found rest = subst HasLawfulOutcome (ap (λ (k : Kept). k.entry) (same_Some (record { at = at; entry = e }) kept found)) all.0
    part false found rest = rest found

-- it has a settlement, at whatever place
pub settlement_some : (p : Epoid) (at : ℕ) (e : Entry) → settles p e ≡ true → settlement_at at e ≡ None → ⊥
settlement_some p at (Enrol id role acct nonce key) is none = cc
settlement_some p at (Fund acct amount reference) is none = cc
settlement_some p at (Paid digest epoid consumer merchant product price cacct macct moment key) is none = cc
settlement_some p at (Charged digest epoid consumer merchant product price fee cacct macct moment key) is none = cc
settlement_some p at (Refused digest epoid consumer merchant product price code a b moment) is none = cc

outcome_at : (at : ℕ) (e : Entry) → HasLawfulOutcome e → IfSome (settlement_at at e) (λ s. IsPaymentOutcome s.outcome)
outcome_at at (Enrol id role acct nonce key) is = tt
outcome_at at (Fund acct amount reference) is = tt
outcome_at at (Paid digest epoid consumer merchant product price cacct macct moment key) is = tt
outcome_at at (Charged digest epoid consumer merchant product price fee cacct macct moment key) is = tt
outcome_at at (Refused digest epoid consumer merchant product price code a b moment) is = is

-- an order whose settlement is none was not found
pub none_found : (H : List Entry) → Legal H → (p : Epoid) (kept : Kept) → Some kept ≡ order_in H p → settlement_of kept ≡ None → IsNone (order_in H p)
none_found H legal p kept found none = absurd (settlement_some p kept.at kept.entry (settles_found p 0 H kept (sym found)) none)

-- the settlement of an order that was found has such a reason
pub outcome_found : (H : List Entry) → Legal H → (p : Epoid) (kept : Kept) → Some kept ≡ order_in H p → IfSome (settlement_of kept) (λ s. IsPaymentOutcome s.outcome)
outcome_found H legal p kept found = outcome_at kept.at kept.entry (outcome_of_found p 0 H kept (outcomes H legal) (sym found))

-- ---- a settlement, in its two parts

by_entry : (at : ℕ) (e : Entry) → settlement_at at e ≡ option_and_then (λ (outcome : PaymentOutcome). settlement_with outcome at e) (outcome_in e)
by_entry at (Enrol id role acct nonce key) = refl
by_entry at (Fund acct amount reference) = refl
by_entry at (Paid digest epoid consumer merchant product price cacct macct moment key) = refl
by_entry at (Charged digest epoid consumer merchant product price fee cacct macct moment key) = refl
by_entry at (Refused digest epoid consumer merchant product price code a b moment) = refl

-- an entry's settlement has what became of its order, and the rest of it
pub settled_in_parts : (kept : Kept) → settlement_of kept ≡ option_and_then (λ (outcome : PaymentOutcome). settlement_with outcome kept.at kept.entry) (outcome_in kept.entry)
settled_in_parts kept = by_entry kept.at kept.entry
