-- Sums of money over a Legal list.
use Rattle.std.proofs.Common.{◌≡◌, ℕ, ◌+◌, ◌-◌, ◌*◌, ◌≤◌, Bool, true, false, cond, List, [], ◌∷◌, ◌++◌, arith, refl, ap, subst, eq-eqb}
use Rattle.std.proofs.lemmas.Bool.{eqb-true}
use Rattle.std.proofs.lemmas.Bool.Decides.{nat_tests}
use Rattle.std.proofs.lemmas.List.Elements.{filter_map-append}
use Rattle.std.proofs.lemmas.List.Sums.{sum_by-cons, sum_by-append, sum_by_push}
use Rattle.std.specs.Prelude.{◌==◌}
use Rattle.std.specs.List.{sum_by, count_by}
use Rattle.nb_units.specs.declared.ids.AcctId.{AcctId}
use Rattle.nb_entry.specs.declared.entry.Entry.{Entry}
use Rattle.nb_entry.specs.declared.entry.Entry.TheVariants.{Enrol, Fund, Paid, Charged, Refused}
use Rattle.nb_book.specs.declared.limits.TheConstants.{MAX_TOTAL}
use Rattle.nb_book.specs.Searches.{holder_at}
use Rattle.nb_book.specs.Money.{fee_in, brought, taken, credit, debit, fund, credits, debits, balance, total, fees, opened, accounts}
use Rattle.nb_book.specs.Legal.{LegalAfter, Legal}
use Rattle.nb_book.specs.Laws.{opens}
use Rattle.nb_book.proofs.Growing.{along}
use Rattle.nb_book.proofs.Counting.{count_by-none, count_by-some, tests_holder, opened_once, opened-account_of, opening_party, house_unopened}
use Rattle.nb_book.proofs.Fees.{fee_within}

-- ---- what one entry brings and takes

-- the one of two numbers that a test that failed leaves
unless : (b : Bool) (x y : ℕ) → b ≡ false → cond b x y ≡ y
unless b x y fails = rw fails refl

-- and that which a test that passed gives
where_so : (b : Bool) (x y : ℕ) → b ≡ true → cond b x y ≡ x
where_so b x y passes = rw passes refl

-- into an account that is not the house's comes what is brought to its party
pub credit_brought : (a : AcctId) (e : Entry) → (a.0 == 0) ≡ false → credit a e ≡ brought a e
credit_brought a e party = unless (a.0 == 0) (fee_in e) (brought a e) party

-- and from it goes what is taken from its party
pub debit_taken : (a : AcctId) (e : Entry) → (a.0 == 0) ≡ false → debit a e ≡ taken a e
debit_taken a e party = unless (a.0 == 0) 0 (taken a e) party

-- an amount for one account, which was opened, is for no other that was not
for_one : (H : List Entry) (acct a : AcctId) (amount : ℕ) → 1 ≤ count_by (opens acct) H → count_by (opens a) H ≡ 0 → cond (acct.0 == a.0) amount 0 ≡ 0
for_one H acct a amount some none = part (acct.0 == a.0) refl where
  part : (b : Bool) → (acct.0 == a.0) ≡ b → cond b amount 0 ≡ 0
  part true same =
      let there : 1 ≤ count_by (opens a) H = subst (λ (n : ℕ). 1 ≤ count_by (opens (record { 0 = n })) H) (eqb-true acct.0 a.0 same) some in
      absurd (omega (arith, there, none))
  part false other = refl

-- nothing is brought to an account that was not opened
brought_none : (H : List Entry) (e : Entry) → LegalAfter H e → (a : AcctId) → count_by (opens a) H ≡ 0 → brought a e ≡ 0
brought_none H (Fund acct amount reference) next a none = for_one H acct a amount (count_by-some (opens acct) (holder_at acct) (tests_holder acct) H next.0) none
brought_none H (Paid digest epoid consumer merchant product price cacct macct moment key) next a none =
    for_one H macct a price.0 (opened-account_of H merchant macct next.2.1) none
brought_none H (Charged digest epoid consumer merchant product price fee cacct macct moment key) next a none =
    for_one H macct a (price.0 - fee) (opened-account_of H merchant macct next.0.2.1) none
brought_none H other next a none = refl

-- nor taken from it
taken_none : (H : List Entry) (e : Entry) → LegalAfter H e → (a : AcctId) → count_by (opens a) H ≡ 0 → taken a e ≡ 0
taken_none H (Paid digest epoid consumer merchant product price cacct macct moment key) next a none =
    for_one H cacct a price.0 (opened-account_of H consumer cacct next.2.0) none
taken_none H (Charged digest epoid consumer merchant product price fee cacct macct moment key) next a none =
    for_one H cacct a price.0 (opened-account_of H consumer cacct next.0.2.0) none
taken_none H other next a none = refl

-- a price that is in one account
price_within : (H : List Entry) (acct a : AcctId) (price : ℕ) → price ≤ balance H acct → cond (acct.0 == a.0) price 0 ≤ balance H a
price_within H acct a price low = part (acct.0 == a.0) refl where
  part : (b : Bool) → (acct.0 == a.0) ≡ b → cond b price 0 ≤ balance H a
  part true same = subst (λ (n : ℕ). price ≤ balance H (record { 0 = n })) (eqb-true acct.0 a.0 same) low
  part false other = omega arith

-- a legal entry takes from a party no more than is in its account
pub taken_within : (H : List Entry) (e : Entry) → LegalAfter H e → (a : AcctId) → taken a e ≤ balance H a
taken_within H (Paid digest epoid consumer merchant product price cacct macct moment key) next a = price_within H cacct a price.0 next.4
taken_within H (Charged digest epoid consumer merchant product price fee cacct macct moment key) next a = price_within H cacct a price.0 next.0.4
taken_within H other next a = omega arith

-- nor from any account
debit-le-balance : (H : List Entry) (e : Entry) → LegalAfter H e → (a : AcctId) → debit a e ≤ balance H a
debit-le-balance H e next a = part (a.0 == 0) where
  part : (b : Bool) → cond b 0 (taken a e) ≤ balance H a
  part true = omega arith
  part false = taken_within H e next a

-- ---- balances

pub none_overdrawn : (H : List Entry) → Legal H → (a : AcctId) → debits H a ≤ credits H a
none_overdrawn = along (λ H. (a : AcctId) → debits H a ≤ credits H a) (λ a. omega arith) more where
  more : (H : List Entry) (e : Entry) → Legal H → LegalAfter H e → ((a : AcctId) → debits H a ≤ credits H a) → (a : AcctId) → debits (H ++ e ∷ []) a ≤ credits (H ++ e ∷ []) a
  more H e legal next before a = rw (sum_by_push (debit a) H e, sum_by_push (credit a) H e) (omega (arith, before a, debit-le-balance H e next a))

-- one more entry adds what it brings and takes what it takes
pub balance_after : (H : List Entry) (e : Entry) → Legal H → LegalAfter H e → (a : AcctId) → balance (H ++ e ∷ []) a + debit a e ≡ balance H a + credit a e
balance_after H e legal next a =
    rw (sum_by_push (debit a) H e, sum_by_push (credit a) H e) (omega (arith, none_overdrawn H legal a, debit-le-balance H e next a))

pub total_fits : (H : List Entry) → Legal H → total H ≤ MAX_TOTAL
total_fits = along (λ H. total H ≤ MAX_TOTAL) (omega arith) more where
  more : (H : List Entry) (e : Entry) → Legal H → LegalAfter H e → total H ≤ MAX_TOTAL → total (H ++ e ∷ []) ≤ MAX_TOTAL
  more H (Fund acct amount reference) legal next fits = omega (arith, sum_by_push fund H (Fund acct amount reference), next.4)
  more H (Enrol who role acct nonce key) legal next fits = omega (arith, sum_by_push fund H (Enrol who role acct nonce key))
  more H (Paid digest epoid consumer merchant product price cacct macct moment key) legal next fits =
      omega (arith, sum_by_push fund H (Paid digest epoid consumer merchant product price cacct macct moment key))
  more H (Charged digest epoid consumer merchant product price fee cacct macct moment key) legal next fits =
      omega (arith, sum_by_push fund H (Charged digest epoid consumer merchant product price fee cacct macct moment key))
  more H (Refused digest epoid consumer merchant product price code a b moment) legal next fits =
      omega (arith, sum_by_push fund H (Refused digest epoid consumer merchant product price code a b moment))

-- of an account that is not the house's
pub party_after : (H : List Entry) (e : Entry) → Legal H → LegalAfter H e → (a : AcctId) → (a.0 == 0) ≡ false
    → balance (H ++ e ∷ []) a + taken a e ≡ balance H a + brought a e
party_after H e legal next a party = omega (arith, balance_after H e legal next a, credit_brought a e party, debit_taken a e party)

-- of any account: what is brought to its party and taken from it, and the fee where it is the house's
pub moves : (H : List Entry) (e : Entry) → Legal H → LegalAfter H e → (a : AcctId)
    → balance (H ++ e ∷ []) a + taken a e ≡ balance H a + brought a e + cond (a.0 == 0) (fee_in e) 0
moves H e legal next a = part (a.0 == 0) refl where
  part : (b : Bool) → (a.0 == 0) ≡ b → balance (H ++ e ∷ []) a + taken a e ≡ balance H a + brought a e + cond b (fee_in e) 0
  part true is =
      let none : count_by (opens a) H ≡ 0 = house_unopened H legal a is in
      let comes : credit a e ≡ fee_in e = where_so (a.0 == 0) (fee_in e) (brought a e) is in
      let goes : debit a e ≡ 0 = where_so (a.0 == 0) 0 (taken a e) is in
      omega (arith, balance_after H e legal next a, comes, goes, brought_none H e next a none, taken_none H e next a none)
  part false party = omega (arith, party_after H e legal next a party)

-- nothing came into an account that no entry opens, unless it is the house's
pub credits-none : (H : List Entry) → Legal H → (a : AcctId) → (a.0 == 0) ≡ false → count_by (opens a) H ≡ 0 → credits H a ≡ 0
credits-none = along (λ H. (a : AcctId) → (a.0 == 0) ≡ false → count_by (opens a) H ≡ 0 → credits H a ≡ 0) (λ a party none. refl) more where
  more : (H : List Entry) (e : Entry) → Legal H → LegalAfter H e → ((a : AcctId) → (a.0 == 0) ≡ false → count_by (opens a) H ≡ 0 → credits H a ≡ 0)
      → (a : AcctId) → (a.0 == 0) ≡ false → count_by (opens a) (H ++ e ∷ []) ≡ 0 → credits (H ++ e ∷ []) a ≡ 0
  more H e legal next before a party none = rw (sum_by_push (credit a) H e) (omega (arith, before a party none_before, credit_brought a e party, brought_none H e next a none_before)) where
    none_before : count_by (opens a) H ≡ 0
    none_before = omega (arith, sum_by_push (λ x. cond (opens a x) 1 0) H e)

-- ---- sums over accounts

-- sums over accounts, each of which changes by what comes and what goes
sum_by-changed : (f g c d : AcctId → ℕ) → ((a : AcctId) → g a + d a ≡ f a + c a) → (xs : List AcctId) → sum_by g xs + sum_by d xs ≡ sum_by f xs + sum_by c xs
sum_by-changed f g c d each [] = refl
sum_by-changed f g c d each (x ∷ xs) =
    omega (arith, sum_by-cons f x xs, sum_by-cons g x xs, sum_by-cons c x xs, sum_by-cons d x xs, each x, sum_by-changed f g c d each xs)

-- nothing for each is nothing in all
pub sum_by-nothing : {A : Type 0} (xs : List A) → sum_by (λ a. 0) xs ≡ 0
sum_by-nothing [] = refl
sum_by-nothing (x ∷ xs) = omega (arith, sum_by-cons (λ a. 0) x xs, sum_by-nothing xs)

-- an amount for one account is that amount for each time that it was opened
sum_by-one : (acct : AcctId) (amount : ℕ) (H : List Entry) → sum_by (λ a. cond (acct.0 == a.0) amount 0) (accounts H) ≡ amount * count_by (opens acct) H
sum_by-one acct amount [] = omega arith
sum_by-one acct amount (Enrol who role a nonce key ∷ es) =
    rw (sum_by-cons (λ a. cond (acct.0 == a.0) amount 0) a (accounts es), sum_by-cons (λ x. cond (opens acct x) 1 0) (Enrol who role a nonce key) es, sum_by-one acct amount es)
    (grind (arith, nat_tests))
sum_by-one acct amount (other ∷ es) = rw (sum_by-cons (λ x. cond (opens acct x) 1 0) other es) (omega (arith, sum_by-one acct amount es))

-- an account that was opened was opened once, so the amount counts once
sum_by-once : (H : List Entry) → Legal H → (acct : AcctId) (amount : ℕ) → 1 ≤ count_by (opens acct) H → sum_by (λ a. cond (acct.0 == a.0) amount 0) (accounts H) ≡ amount
sum_by-once H legal acct amount held =
    let once : count_by (opens acct) H ≡ 1 = omega (arith, opened_once H legal acct) in
    rw (sum_by-one acct amount H, once) (omega arith)

-- sums over the accounts that were opened are of accounts that are not the house's
sum_by-parties : (f g : AcctId → ℕ) → ((a : AcctId) → (a.0 == 0) ≡ false → f a ≡ g a) → (H : List Entry) → Legal H → sum_by f (accounts H) ≡ sum_by g (accounts H)
sum_by-parties f g same = along (λ H. sum_by f (accounts H) ≡ sum_by g (accounts H)) refl more where
  last : (H : List Entry) (e : Entry) → LegalAfter H e → sum_by f (accounts (e ∷ [])) ≡ sum_by g (accounts (e ∷ []))
  last H (Enrol who role acct nonce key) next =
      rw (sum_by-cons f acct [], sum_by-cons g acct []) (ap (λ (n : ℕ). n + 0) (same acct (opening_party H (Enrol who role acct nonce key) next acct (eq-eqb acct.0 acct.0 refl))))
  last H other next = refl

  more : (H : List Entry) (e : Entry) → Legal H → LegalAfter H e → sum_by f (accounts H) ≡ sum_by g (accounts H)
      → sum_by f (accounts (H ++ e ∷ [])) ≡ sum_by g (accounts (H ++ e ∷ []))
  more H e legal next before =
      rw (filter_map-append opened H (e ∷ []), sum_by-append f (accounts H) (accounts (e ∷ [])), sum_by-append g (accounts H) (accounts (e ∷ [])), before) (ap (λ (n : ℕ). sum_by g (accounts H) + n) (last H e next))

pub balances_make_total : (H : List Entry) → Legal H → sum_by (balance H) (accounts H) + fees H ≡ total H
balances_make_total = along (λ H. sum_by (balance H) (accounts H) + fees H ≡ total H) refl more where
  more : (H : List Entry) (e : Entry) → Legal H → LegalAfter H e → sum_by (balance H) (accounts H) + fees H ≡ total H
      → sum_by (balance (H ++ e ∷ [])) (accounts (H ++ e ∷ [])) + fees (H ++ e ∷ []) ≡ total (H ++ e ∷ [])
  more H e legal next before =
      rw (filter_map-append opened H (e ∷ []), sum_by-append (balance (H ++ e ∷ [])) (accounts H) (accounts (e ∷ [])), sum_by_push fund H e, sum_by_push fee_in H e)
      (omega (
        arith,
        sum_by-changed (balance H) (balance (H ++ e ∷ [])) (λ a. credit a e) (λ a. debit a e) (balance_after H e legal next) (accounts H),
        sum_by-parties (λ a. credit a e) (λ a. brought a e) (λ a party. credit_brought a e party) H legal,
        sum_by-parties (λ a. debit a e) (λ a. taken a e) (λ a party. debit_taken a e party) H legal,
        before,
        split e next,
      ))
    where
      split : (e : Entry) → LegalAfter H e
          → sum_by (λ a. brought a e) (accounts H) + sum_by (balance (H ++ e ∷ [])) (accounts (e ∷ [])) + fee_in e ≡ sum_by (λ a. taken a e) (accounts H) + fund e
      split (Enrol who role acct nonce key) next =
          let unopened : count_by (opens acct) H ≡ 0 = count_by-none (opens acct) (holder_at acct) (tests_holder acct) H next.4 in
          let party : (acct.0 == 0) ≡ false = opening_party H (Enrol who role acct nonce key) next acct (eq-eqb acct.0 acct.0 refl) in
          omega (arith, sum_by-nothing (accounts H), party_after H (Enrol who role acct nonce key) legal next acct party, credits-none H legal acct party unopened)
      split (Fund acct amount reference) next =
          omega (arith, sum_by-nothing (accounts H), sum_by-once H legal acct amount (count_by-some (opens acct) (holder_at acct) (tests_holder acct) H next.0))
      split (Paid digest epoid consumer merchant product price cacct macct moment key) next =
          omega (
            arith,
            sum_by-once H legal macct price.0 (opened-account_of H merchant macct next.2.1),
            sum_by-once H legal cacct price.0 (opened-account_of H consumer cacct next.2.0),
          )
      split (Charged digest epoid consumer merchant product price fee cacct macct moment key) next =
          omega (
            arith,
            sum_by-once H legal macct (price.0 - fee) (opened-account_of H merchant macct next.0.2.1),
            sum_by-once H legal cacct price.0 (opened-account_of H consumer cacct next.0.2.0),
            fee_within price fee next.1,
          )
      split (Refused digest epoid consumer merchant product price code a b moment) next = omega (arith, sum_by-nothing (accounts H))
