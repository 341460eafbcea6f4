-- How many entries answer a look-up.
use Rattle.std.proofs.Common.{◌≡◌, ℕ, zero, suc, ◌+◌, ◌≤◌, Bool, true, false, cond, ltb, ◌||◌, List, [], ◌∷◌, ◌++◌, Option, Some, None, arith, refl, ap, sym, ◌∙◌, subst, eq-eqb, ◌&&◌}
use Rattle.std.proofs.lemmas.List.Sums.{sum_by-cons, sum_by_push}
use Rattle.std.proofs.lemmas.Bool.{eqb-true, ltb-true, ltb-false, and_parts, false_from_ne_true, true≢false}
use Rattle.std.proofs.lemmas.Bool.Decides.{nat_tests}
use Rattle.std.proofs.lemmas.Option.{same_Some}
use Rattle.std.proofs.lemmas.Slice.Eq.{bytes_eq-Decides}
use Rattle.std.specs.Prelude.{◌==◌}
use Rattle.std.specs.List.{count_by}
use Rattle.std.specs.Option.{is_some, option_or, option_map, IsSome, IsNone}
use Rattle.std.specs.Str.{bytes_eq}
use Rattle.nb_units.specs.declared.ids.PartyId.{PartyId}
use Rattle.nb_units.specs.declared.ids.AcctId.{AcctId}
use Rattle.nb_units.specs.declared.epoid.Epoid.{Epoid}
use Rattle.nb_entry.specs.declared.entry.Entry.{Entry}
use Rattle.nb_entry.specs.declared.entry.Entry.TheVariants.{Enrol, Fund, Paid, Charged, Refused}
use Rattle.nb_book.specs.Searches.{first_from, party_at, party_in, holder_at, holder_in, funded_at, funded_in, same_epoid, settles, order_at, order_in, account_of}
use Rattle.nb_book.specs.Legal.{LegalAfter, Legal}
use Rattle.nb_book.specs.Laws.{enrols, opens, cites}
use Rattle.nb_book.proofs.Growing.{along}

-- a look-up answers at the entries that pass a test, and at no other
abbrev pub Tests : {A : Type 0} → (Entry → Bool) → (ℕ → Entry → Option A) → Type 0
Tests test answer = (at : ℕ) (e : Entry) → is_some (answer at e) ≡ test e

-- whether either of two answers is there
or_some : {A : Type 0} (x y : Option A) → is_some (option_or x y) ≡ (is_some x || is_some y)
or_some None y = refl
or_some (Some x) y = refl

-- the look-up finds something exactly where some entry passes
pub found-count : {A : Type 0} (test : Entry → Bool) (answer : ℕ → Entry → Option A) → Tests test answer
    → (at : ℕ) (H : List Entry) → is_some (first_from answer at H) ≡ ltb 0 (count_by test H)
found-count test answer tests at [] = refl
found-count test answer tests at (e ∷ es) =
    let rest : is_some (first_from answer (at + 1) es) ≡ ltb 0 (count_by test es) = found-count test answer tests (at + 1) es in
    let here : is_some (answer at e) ≡ test e = tests at e in
    rw (or_some (answer at e) (first_from answer (at + 1) es), here, rest, sum_by-cons (λ x. cond (test x) 1 0) e es) (either (test e) (count_by test es))
  where
    either : (b : Bool) (n : ℕ) → (b || ltb 0 n) ≡ ltb 0 (cond b 1 0 + n)
    either true n = grind (arith, nat_tests)
    either false n = grind (arith, nat_tests)

-- no entry passes where the look-up finds nothing
pub count_by-none : {A : Type 0} (test : Entry → Bool) (answer : ℕ → Entry → Option A) → Tests test answer
    → (H : List Entry) → IsNone (first_from answer 0 H) → count_by test H ≡ 0
count_by-none test answer tests H none = omega (arith, ltb-false 0 (count_by test H) (sym (found-count test answer tests 0 H) ∙ none))

-- some entry passes where it finds something
pub count_by-some : {A : Type 0} (test : Entry → Bool) (answer : ℕ → Entry → Option A) → Tests test answer
    → (H : List Entry) → IsSome (first_from answer 0 H) → 1 ≤ count_by test H
count_by-some test answer tests H some = omega (arith, ltb-true 0 (count_by test H) (sym (found-count test answer tests 0 H) ∙ some))

-- one entry more passes only where the look-up found nothing before
pub once_more : {A : Type 0} (test : Entry → Bool) (answer : ℕ → Entry → Option A) → Tests test answer
    → (H : List Entry) (e : Entry) → (test e ≡ true → IsNone (first_from answer 0 H))
    → count_by test H ≤ 1 → count_by test (H ++ e ∷ []) ≤ 1
once_more test answer tests H e new once = rw (sum_by_push (λ x. cond (test x) 1 0) H e) (step (test e) refl) where
  step : (b : Bool) → test e ≡ b → count_by test H + cond b 1 0 ≤ 1
  step true passes = omega (arith, count_by-none test answer tests H (new passes))
  step false fails = omega arith

-- whether the optional value under a test is there
pub tested : {A : Type 0} (b : Bool) (x : A) → is_some (cond b (Some x) None) ≡ b
tested true x = refl
tested false x = refl

pub tests_party : (id : PartyId) → Tests (enrols id) (party_at id)
tests_party id at (Enrol who role acct nonce key) = tested (who.0 == id.0) _
tests_party id at other = refl

pub tests_holder : (a : AcctId) → Tests (opens a) (holder_at a)
tests_holder a at (Enrol who role acct nonce key) = tested (acct.0 == a.0) _
tests_holder a at other = refl

pub tests_funded : (r : List ℕ) → Tests (cites r) (funded_at r)
tests_funded r at (Fund acct amount reference) = tested (bytes_eq reference r) _
tests_funded r at other = refl

pub tests_order : (p : Epoid) → Tests (settles p) (order_at p)
tests_order p at e = tested (settles p e) _

-- the identifier of these parts
abbrev made : ℕ → ℕ → ℕ → Epoid
made merchant moment serial = record { merchant = record { 0 = merchant }; moment = moment; serial = serial }

-- identifiers that are the same part by part are one
pub same_epoid-true : (p q : Epoid) → same_epoid p q ≡ true → p ≡ q
same_epoid-true p q same =
    let parts = and_parts (p.merchant.0 == q.merchant.0 && p.moment == q.moment) (p.serial == q.serial) same in
    let front = and_parts (p.merchant.0 == q.merchant.0) (p.moment == q.moment) parts.0 in
    ap (λ (m : ℕ). made m p.moment p.serial) (eqb-true p.merchant.0 q.merchant.0 front.0)
    ∙ ap (λ (t : ℕ). made q.merchant.0 t p.serial) (eqb-true p.moment q.moment front.1)
    ∙ ap (λ (n : ℕ). made q.merchant.0 q.moment n) (eqb-true p.serial q.serial parts.1)

-- a number that a legal entry enrols is new
pub enrols_new : (H : List Entry) (e : Entry) → LegalAfter H e → (id : PartyId) → enrols id e ≡ true → IsNone (party_in H id)
enrols_new H (Enrol who role acct nonce key) next id names =
    subst (λ (n : ℕ). IsNone (party_in H (record { 0 = n }))) (eqb-true who.0 id.0 names) next.3
enrols_new H other next id names = cc

pub enrolled_once : (H : List Entry) → Legal H → (id : PartyId) → count_by (enrols id) H ≤ 1
enrolled_once = along (λ H. (id : PartyId) → count_by (enrols id) H ≤ 1) (λ id. omega arith) more where
  more : (H : List Entry) (e : Entry) → Legal H → LegalAfter H e → ((id : PartyId) → count_by (enrols id) H ≤ 1) → (id : PartyId) → count_by (enrols id) (H ++ e ∷ []) ≤ 1
  more H e legal next once id = once_more (enrols id) (party_at id) (tests_party id) H e (enrols_new H e next id) (once id)

pub opened_once : (H : List Entry) → Legal H → (a : AcctId) → count_by (opens a) H ≤ 1
opened_once = along (λ H. (a : AcctId) → count_by (opens a) H ≤ 1) (λ a. omega arith) more where
  more : (H : List Entry) (e : Entry) → Legal H → LegalAfter H e → ((a : AcctId) → count_by (opens a) H ≤ 1) → (a : AcctId) → count_by (opens a) (H ++ e ∷ []) ≤ 1
  more H e legal next once a = once_more (opens a) (holder_at a) (tests_holder a) H e (new e next) (once a) where
    new : (e : Entry) → LegalAfter H e → opens a e ≡ true → IsNone (holder_in H a)
    new (Enrol who role acct nonce key) next names =
        subst (λ (n : ℕ). IsNone (holder_in H (record { 0 = n }))) (eqb-true acct.0 a.0 names) next.4
    new other next names = cc

pub funded_once : (H : List Entry) → Legal H → (r : List ℕ) → count_by (cites r) H ≤ 1
funded_once = along (λ H. (r : List ℕ) → count_by (cites r) H ≤ 1) (λ r. omega arith) more where
  more : (H : List Entry) (e : Entry) → Legal H → LegalAfter H e → ((r : List ℕ) → count_by (cites r) H ≤ 1) → (r : List ℕ) → count_by (cites r) (H ++ e ∷ []) ≤ 1
  more H e legal next once r = once_more (cites r) (funded_at r) (tests_funded r) H e (new e next) (once r) where
    new : (e : Entry) → LegalAfter H e → cites r e ≡ true → IsNone (funded_in H r)
    new (Fund acct amount reference) next names =
        subst (λ (q : List ℕ). IsNone (funded_in H q)) ((bytes_eq-Decides reference r).0 names) next.3
    new other next names = cc

pub settled_once : (H : List Entry) → Legal H → (p : Epoid) → count_by (settles p) H ≤ 1
settled_once = along (λ H. (p : Epoid) → count_by (settles p) H ≤ 1) (λ p. omega arith) more where
  more : (H : List Entry) (e : Entry) → Legal H → LegalAfter H e → ((p : Epoid) → count_by (settles p) H ≤ 1) → (p : Epoid) → count_by (settles p) (H ++ e ∷ []) ≤ 1
  more H e legal next once p = once_more (settles p) (order_at p) (tests_order p) H e (new e next) (once p) where
    new : (e : Entry) → LegalAfter H e → settles p e ≡ true → IsNone (order_in H p)
    new (Paid digest epoid consumer merchant product price cacct macct moment key) next names =
        subst (λ (q : Epoid). IsNone (order_in H q)) (same_epoid-true epoid p names) next.0.0
    new (Charged digest epoid consumer merchant product price fee cacct macct moment key) next names =
        subst (λ (q : Epoid). IsNone (order_in H q)) (same_epoid-true epoid p names) next.0.0.0
    new (Refused digest epoid consumer merchant product price code a b moment) next names =
        subst (λ (q : Epoid). IsNone (order_in H q)) (same_epoid-true epoid p names) next.0.0
    new other next names = cc

-- the account of a party that is enrolled was opened
pub opened-account_of : (H : List Entry) (id : PartyId) (a : AcctId) → account_of H id ≡ Some a → 1 ≤ count_by (opens a) H
opened-account_of H id a = from 0 H where
  from : (at : ℕ) (es : List Entry) → option_map (λ party. party.acct) (first_from (party_at id) at es) ≡ Some a → 1 ≤ count_by (opens a) es
  from at [] is = absurd cc
  from at (Enrol who role acct nonce key ∷ es) is =
      rw (sum_by-cons (λ x. cond (opens a x) 1 0) (Enrol who role acct nonce key) es) (part (who.0 == id.0) (λ is. from (at + 1) es is) is)
    where
      part : (b : Bool) → (option_map (λ party. party.acct) (first_from (party_at id) (at + 1) es) ≡ Some a → 1 ≤ count_by (opens a) es)
          → option_map (λ party. party.acct) (option_or (cond b (Some (record { at = at; role = role; acct = acct; nonce = nonce; key = key })) None) (first_from (party_at id) (at + 1) es)) ≡ Some a
          → 1 ≤ cond (acct.0 == a.0) 1 0 + count_by (opens a) es
      part true rest is =
          let same : acct ≡ a = same_Some acct a is in
          let opens_it : (acct.0 == a.0) ≡ true = eq-eqb acct.0 a.0 (ap (λ (x : AcctId). x.0) same) in
          rw opens_it (omega arith)
      part false rest is = omega (arith, rest is)
  from at (other ∷ es) is = omega (arith, sum_by-cons (λ x. cond (opens a x) 1 0) other es, from (at + 1) es is)

-- one or none
abbrev pub one_if : Bool → ℕ
one_if b = cond b 1 0

-- an account that a legal entry opens is not the house's
pub opening_party : (H : List Entry) (e : Entry) → LegalAfter H e → (a : AcctId) → opens a e ≡ true → (a.0 == 0) ≡ false
opening_party H (Enrol who role acct nonce key) next a names = false_from_ne_true (a.0 == 0) (λ zero. next.1 (eqb-true acct.0 a.0 names ∙ eqb-true a.0 0 zero))
opening_party H other next a names = cc

-- nor is one that was opened
pub opened_party : (H : List Entry) → Legal H → (a : AcctId) → 1 ≤ count_by (opens a) H → (a.0 == 0) ≡ false
opened_party = along (λ H. (a : AcctId) → 1 ≤ count_by (opens a) H → (a.0 == 0) ≡ false) (λ a some. absurd (omega arith)) more where
  more : (H : List Entry) (e : Entry) → Legal H → LegalAfter H e → ((a : AcctId) → 1 ≤ count_by (opens a) H → (a.0 == 0) ≡ false)
      → (a : AcctId) → 1 ≤ count_by (opens a) (H ++ e ∷ []) → (a.0 == 0) ≡ false
  more H e legal next before a some = part (opens a e) refl where
    part : (b : Bool) → opens a e ≡ b → (a.0 == 0) ≡ false
    part true names = opening_party H e next a names
    part false other = before a (omega (arith, some, sum_by_push (λ x. cond (opens a x) 1 0) H e, ap one_if other))

-- so the house's was not
pub house_unopened : (H : List Entry) → Legal H → (a : AcctId) → (a.0 == 0) ≡ true → count_by (opens a) H ≡ 0
house_unopened H legal a is = which (count_by (opens a) H) refl where
  which : (n : ℕ) → count_by (opens a) H ≡ n → count_by (opens a) H ≡ 0
  which zero none = none
  which (suc n) some = absurd (true≢false (sym is ∙ opened_party H legal a (omega (arith, some))))
