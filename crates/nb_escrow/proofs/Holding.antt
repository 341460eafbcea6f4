-- An equal entry is held exactly where the entry that the book finds under its key says the same.
use Rattle.std.proofs.Common.{◌≡◌, ℕ, ◌+◌, ◌≤◌, Bool, true, false, cond, eqb, ◌&&◌, List, [], ◌∷◌, ◌++◌, Option, None, Some, arith, refl, sym, ap, ◌∙◌, eq-eqb}
use Rattle.std.proofs.lemmas.List.Sums.{sum_by-cons, sum_by_push}
use Rattle.std.proofs.lemmas.Option.{same_Some}
use Rattle.std.specs.Prelude.{◌==◌}
use Rattle.std.specs.List.{count_by}
use Rattle.std.specs.Option.{option_or, option_map, option_and_then, IsSome, IsNone}
use Rattle.std.proofs.Math.Bool.{and-false, and-true}
use Rattle.nb_units.specs.declared.ids.AcctId.{AcctId}
use Rattle.nb_units.specs.declared.ids.PartyId.{PartyId}
use Rattle.nb_entry.specs.declared.entry.Entry.{Entry}
use Rattle.nb_entry.specs.declared.entry.Entry.TheVariants.{Enrol, Fund}
use Rattle.nb_book.specs.declared.party.Party.{Party}
use Rattle.nb_book.specs.declared.funded.Funded.{Funded}
use Rattle.nb_book.specs.declared.account.Account.{Account}
use Rattle.nb_book.specs.Money.{credit, debit, balance, account_in}
use Rattle.nb_book.specs.Searches.{first_from, party_at, party_in, holder_at, holder_in, funded_at, funded_in}
use Rattle.nb_book.specs.Legal.{Legal}
use Rattle.nb_book.specs.Laws.{enrols, opens, cites}
use Rattle.nb_book.proofs.Summing.{none_overdrawn, credit_brought, debit_taken}
use Rattle.nb_book.proofs.Counting.{enrolled_once, funded_once, opened_party, count_by-some, tests_holder}
use Rattle.nb_body.specs.declared.enrolment.Enrolment.{Enrolment}
use Rattle.nb_body.specs.declared.funding.Funding.{Funding}
use Rattle.nb_escrow.specs.Held.{same_entry, place_at, place_in}
use Rattle.nb_escrow.specs.Enrolments.{enrol_entry, party_place}
use Rattle.nb_escrow.specs.Fundings.{fund_entry, funded_place}

abbrev one_if : Bool → ℕ
one_if b = cond b 1 0

-- an account that is not found has no holder
pub unheld : (H : List Entry) (a : AcctId) → None ≡ account_in H a → IsNone (holder_in H a)
unheld H a none = part (holder_in H a) none
  where
    part : (o : Option PartyId) → None ≡ option_map (λ (who : PartyId). let account : Account = record { party = who; balance = balance H a } in account) o → IsNone o
    part None e = refl
    part (Some who) e = absurd cc

-- an account that is found has its holder
pub holder_of : (H : List Entry) (a : AcctId) (account : Account) → Some account ≡ account_in H a → holder_in H a ≡ Some account.party
holder_of H a account found = part (holder_in H a) found
  where
    part : (o : Option PartyId) → Some account ≡ option_map (λ (who : PartyId). let account : Account = record { party = who; balance = balance H a } in account) o → o ≡ Some account.party
    part None e = absurd cc
    part (Some who) e = ap (λ (x : Account). let o : Option PartyId = Some x.party in o) (sym (same_Some account (record { party = who; balance = balance H a }) e))

-- ---- entries in general

-- the entry is found by a test of its key, and an equal entry has the same key
pub record Keyed {A : Type 0} (e : Entry) (test : Entry → Bool) (answer : ℕ → Entry → Option A) (match_of : A → Option ℕ) : Type 0 where
  pub misses : (at : ℕ) (x : Entry) → test x ≡ false → (answer at x ≡ None) × (same_entry x e ≡ false)
  pub finds : (at : ℕ) (x : Entry) → test x ≡ true → (a : A) × (answer at x ≡ Some a) × (match_of a ≡ place_at e at x)

-- none with the key, none equal
none_equal : {A : Type 0} (e : Entry) (test : Entry → Bool) (answer : ℕ → Entry → Option A) (match_of : A → Option ℕ) → Keyed e test answer match_of
    → (at : ℕ) (es : List Entry) → count_by test es ≡ 0 → first_from (place_at e) at es ≡ None
none_equal e test answer match_of k at [] none = refl
none_equal e test answer match_of k at (x ∷ es) none = part (test x) refl (λ left. none_equal e test answer match_of k (at + 1) es left)
  where
    part : (b : Bool) → test x ≡ b → (count_by test es ≡ 0 → first_from (place_at e) (at + 1) es ≡ None) → first_from (place_at e) at (x ∷ es) ≡ None
    part true found rest = absurd (omega (arith, none, sum_by-cons (λ y. cond (test y) 1 0) x es, ap one_if found))
    part false other rest =
        let missed = (k.misses at x other).1 in
        rw missed (rest (omega (arith, none, sum_by-cons (λ y. cond (test y) 1 0) x es, ap one_if other)))

pub found_by_key : {A : Type 0} (e : Entry) (test : Entry → Bool) (answer : ℕ → Entry → Option A) (match_of : A → Option ℕ) → Keyed e test answer match_of
    → (at : ℕ) (es : List Entry) → count_by test es ≤ 1 → option_and_then match_of (first_from answer at es) ≡ first_from (place_at e) at es
found_by_key e test answer match_of k at [] once = refl
found_by_key e test answer match_of k at (x ∷ es) once = part (test x) refl (λ left. found_by_key e test answer match_of k (at + 1) es left)
  where
    behind : (p : Option ℕ) → first_from (place_at e) (at + 1) es ≡ None → p ≡ option_or p (first_from (place_at e) (at + 1) es)
    behind None none = sym none
    behind (Some n) none = refl

    part : (b : Bool) → test x ≡ b → (count_by test es ≤ 1 → option_and_then match_of (first_from answer (at + 1) es) ≡ first_from (place_at e) (at + 1) es) → option_and_then match_of (first_from answer at (x ∷ es)) ≡ first_from (place_at e) at (x ∷ es)
    part true found behind_it =
        let hit = k.finds at x found in
        let rest : count_by test es ≡ 0 = omega (arith, once, sum_by-cons (λ y. cond (test y) 1 0) x es, ap one_if found) in
        rw hit.1 (hit.2 ∙ behind (place_at e at x) (none_equal e test answer match_of k (at + 1) es rest))
    part false other behind_it =
        let missed = k.misses at x other in
        rw (missed.0, missed.1) (behind_it (omega (arith, once, sum_by-cons (λ y. cond (test y) 1 0) x es, ap one_if other)))

-- ---- enrolments

keyed_enrol : (asked : Enrolment) → Keyed (enrol_entry asked) (enrols asked.id) (party_at asked.id) (party_place asked)
keyed_enrol asked = record { misses = misses; finds = finds }
  where
    misses : (at : ℕ) (x : Entry) → enrols asked.id x ≡ false → (party_at asked.id at x ≡ None) × (same_entry x (enrol_entry asked) ≡ false)
    misses at (Enrol who role acct nonce key) other = (rw other refl, rw other refl)
    misses at x other = (refl, refl)

    finds : (at : ℕ) (x : Entry) → enrols asked.id x ≡ true → (a : Party) × (party_at asked.id at x ≡ Some a) × (party_place asked a ≡ place_at (enrol_entry asked) at x)
    finds at (Enrol who role acct nonce key) same = (record { at = at; role = role; acct = acct; nonce = nonce; key = key }, rw same refl, rw same refl)
    finds at x same = absurd cc

pub enrol_place : (H : List Entry) → Legal H → (asked : Enrolment) → option_and_then (party_place asked) (party_in H asked.id) ≡ place_in H (enrol_entry asked)
enrol_place H legal asked = found_by_key (enrol_entry asked) (enrols asked.id) (party_at asked.id) (party_place asked) (keyed_enrol asked) 0 H (enrolled_once H legal asked.id)

-- ---- funds

keyed_fund : (asked : Funding) → Keyed (fund_entry asked) (cites asked.reference) (funded_at asked.reference) (funded_place asked)
keyed_fund asked = record { misses = misses; finds = finds }
  where
    misses : (at : ℕ) (x : Entry) → cites asked.reference x ≡ false → (funded_at asked.reference at x ≡ None) × (same_entry x (fund_entry asked) ≡ false)
    misses at (Fund acct amount reference) other = (rw other refl, rw (other, and-false ((acct.0 == asked.acct.0) && (amount == asked.amount))) refl)
    misses at x other = (refl, refl)

    finds : (at : ℕ) (x : Entry) → cites asked.reference x ≡ true → (a : Funded) × (funded_at asked.reference at x ≡ Some a) × (funded_place asked a ≡ place_at (fund_entry asked) at x)
    finds at (Fund acct amount reference) same = (record { at = at; acct = acct; amount = amount }, rw same refl, rw (same, and-true ((acct.0 == asked.acct.0) && (amount == asked.amount))) refl)
    finds at x same = absurd cc

pub fund_place : (H : List Entry) → Legal H → (asked : Funding) → option_and_then (funded_place asked) (funded_in H asked.reference) ≡ place_in H (fund_entry asked)
fund_place H legal asked = found_by_key (fund_entry asked) (cites asked.reference) (funded_at asked.reference) (funded_place asked) (keyed_fund asked) 0 H (funded_once H legal asked.reference)

-- ---- balances

same_number : {A : Type 0} (n : ℕ) (x y : A) → cond (eqb n n) x y ≡ x
same_number n x y = rw (eq-eqb n n refl) refl

-- a fund adds its amount to its account, which a party holds
pub fund_adds : (H : List Entry) → Legal H → (asked : Funding) → IsSome (holder_in H asked.acct) → balance (H ++ fund_entry asked ∷ []) asked.acct ≡ balance H asked.acct + asked.amount
fund_adds H legal asked held =
    let party : (asked.acct.0 == 0) ≡ false = opened_party H legal asked.acct (count_by-some (opens asked.acct) (holder_at asked.acct) (tests_holder asked.acct) H held) in
    rw (sum_by_push (credit asked.acct) H (fund_entry asked), sum_by_push (debit asked.acct) H (fund_entry asked))
    (omega (
      arith,
      none_overdrawn H legal asked.acct,
      same_number asked.acct.0 asked.amount 0,
      credit_brought asked.acct (fund_entry asked) party,
      debit_taken asked.acct (fund_entry asked) party,
    ))
