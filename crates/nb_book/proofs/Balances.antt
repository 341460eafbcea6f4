-- Single balances over a Legal list.
use Rattle.std.proofs.Common.{◌≡◌, ◌≢◌, ℕ, zero, suc, ◌+◌, ◌≤◌, Bool, true, false, cond, List, [], ◌∷◌, length, Option, None, Some, arith, refl, sym, ap, ap₂, ◌∙◌, subst}
use Rattle.std.proofs.lemmas.Bool.{eqb-true, false_from_ne_true}
use Rattle.std.proofs.lemmas.List.Sums.{sum_by-cons}
use Rattle.std.specs.Prelude.{◌==◌}
use Rattle.std.specs.List.{sum_by, count_by}
use Rattle.std.specs.Option.{IsNone, option_or}
use Rattle.nb_units.specs.declared.ids.AcctId.{AcctId}
use Rattle.nb_units.specs.declared.ids.PartyId.{PartyId}
use Rattle.nb_entry.specs.declared.entry.Entry.{Entry}
use Rattle.nb_entry.specs.declared.entry.Entry.TheVariants.{Enrol, Fund, Paid, Charged, Refused}
use Rattle.nb_book.specs.Searches.{holder_at, holder_in}
use Rattle.nb_book.specs.Money.{house_account, balance, debits, total, fees, accounts}
use Rattle.nb_book.specs.Legal.{Legal, LegalAfter}
use Rattle.nb_book.specs.Laws.{opens}
use Rattle.nb_book.proofs.Growing.{along}
use Rattle.nb_book.proofs.Indexing.{first_push}
use Rattle.nb_book.proofs.Counting.{one_if, count_by-none, tests_holder}
use Rattle.nb_book.proofs.Summing.{balances_make_total, credits-none, sum_by-nothing}

-- an account that nobody holds has nothing, unless it is the house's
pub balance-none : (H : List Entry) → Legal H → (a : AcctId) → a.0 ≢ 0 → IsNone (holder_in H a) → balance H a ≡ 0
balance-none H legal a party none =
    omega (arith, credits-none H legal a (false_from_ne_true (a.0 == 0) (λ is. party (eqb-true a.0 0 is))) (count_by-none (opens a) (holder_at a) (tests_holder a) H none))

-- in the house's account are the fees
pub house_has_fees : (H : List Entry) → balance H house_account ≡ fees H
house_has_fees H = let nothing : debits H house_account ≡ 0 = sum_by-nothing H in omega (arith, nothing)

-- one more legal entry opens no account 0
opens_none : (H : List Entry) (at : ℕ) (e : Entry) → LegalAfter H e → holder_at house_account at e ≡ None
opens_none H at (Enrol who role acct nonce key) legal = ap (λ (b : Bool). cond b (Some who) None) (false_from_ne_true (acct.0 == 0) (λ is. legal.1 (eqb-true acct.0 0 is)))
opens_none H at (Fund acct amount reference) legal = refl
opens_none H at (Paid digest epoid consumer merchant product price cacct macct moment key) legal = refl
opens_none H at (Charged digest epoid consumer merchant product price fee cacct macct moment key) legal = refl
opens_none H at (Refused digest epoid consumer merchant product price code a b moment) legal = refl

-- nobody holds the house's account
pub held_by_nobody : (H : List Entry) → Legal H → IsNone (holder_in H house_account)
held_by_nobody H legal = subst (λ (o : Option PartyId). IsNone o) (sym (along (λ (L : List Entry). holder_in L house_account ≡ None) refl
    (λ L e front next none. first_push (holder_at house_account) 0 L e ∙ ap₂ (λ (o p : Option PartyId). option_or o p) none (opens_none L (length L) e next)) H legal)) refl

-- the house kept no more than it took in
pub fees_le_total : (H : List Entry) → Legal H → fees H ≤ total H
fees_le_total H legal = omega (arith, balances_make_total H legal)

-- what is counted for an opened account is part of the sum over all
part_of_sum : (f : AcctId → ℕ) (a : AcctId) (H : List Entry) → 1 ≤ count_by (opens a) H → f a ≤ sum_by f (accounts H)
part_of_sum f a [] some = absurd (omega arith)
part_of_sum f a (Enrol who role acct nonce key ∷ es) some = rw (sum_by-cons f acct (accounts es)) (here (acct.0 == a.0) refl (λ some. part_of_sum f a es some)) where
  here : (b : Bool) → (acct.0 == a.0) ≡ b → (1 ≤ count_by (opens a) es → f a ≤ sum_by f (accounts es)) → f a ≤ f acct + sum_by f (accounts es)
  here true same rest = subst (λ (n : ℕ). f (record { 0 = n }) ≤ f acct + sum_by f (accounts es)) (eqb-true acct.0 a.0 same) (omega arith)
  here false other rest =
      let behind : 1 ≤ count_by (opens a) es = omega (arith, some, sum_by-cons (λ x. cond (opens a x) 1 0) (Enrol who role acct nonce key) es, ap one_if other) in
      omega (arith, rest behind)
part_of_sum f a (other ∷ es) some = part_of_sum f a es (omega (arith, sum_by-cons (λ x. cond (opens a x) 1 0) other es))

-- no account has more than the house took in
pub balance_le_total : (H : List Entry) → Legal H → (a : AcctId) → balance H a ≤ total H
balance_le_total H legal a = whose (a.0 == 0) refl where
  held : (a.0 == 0) ≡ false → (n : ℕ) → count_by (opens a) H ≡ n → balance H a ≤ total H
  held party zero none = omega (arith, credits-none H legal a party none)
  held party (suc n) some = omega (arith, part_of_sum (balance H) a H (omega arith), balances_make_total H legal)

  whose : (b : Bool) → (a.0 == 0) ≡ b → balance H a ≤ total H
  whose true is = subst (λ (n : ℕ). balance H (record { 0 = n }) ≤ total H) (sym (eqb-true a.0 0 is)) (omega (arith, house_has_fees H, fees_le_total H legal))
  whose false party = held party (count_by (opens a) H) refl
