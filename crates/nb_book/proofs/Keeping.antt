-- Balances that are kept, behind one entry more and without the last one, and the money that an entry moves.
use Rattle.std.proofs.Common.{◌≡◌, ℕ, ◌+◌, ◌-◌, ◌<◌, ◌≤◌, ◌^◌, Bool, true, false, cond, List, [], ◌∷◌, ◌++◌, Option, Some, None, length, take, get_or, arith, refl, sym, ap, subst, ◌∙◌, eq-eqb}
use Rattle.std.proofs.lemmas.Bool.{eqb-true, eqb-false, false_from_ne_true, lt-ltb}
use Rattle.std.proofs.lemmas.List.{take_more, take_all, get_or-take, get_or_push, get_or_append_left, length_push, length-take-le}
use Rattle.std.proofs.lemmas.List.Sums.{sum_by-take-drop}
use Rattle.std.proofs.lemmas.Option.{same_Some}
use Rattle.std.specs.Prelude.{◌==◌}
use Rattle.std.specs.List.{count_by}
use Rattle.std.specs.Option.{option_or, is_some, IsSome}
use Rattle.nb_units.specs.declared.ids.PartyId.{PartyId}
use Rattle.nb_units.specs.declared.ids.AcctId.{AcctId}
use Rattle.nb_entry.specs.declared.entry.Entry.{Entry}
use Rattle.nb_entry.specs.declared.entry.Entry.TheVariants.{Enrol, Fund}
use Rattle.nb_book.specs.declared.party.Party.{Party}
use Rattle.nb_book.specs.Searches.{party_at, party_in, holder_at, holder_in}
use Rattle.nb_book.specs.Money.{brought, taken, balance}
use Rattle.nb_book.specs.Legal.{LegalAfter, Legal, AccountsAre}
use Rattle.nb_book.specs.Laws.{opens}
use Rattle.nb_book.specs.Indexes.{place_if, first_place, KeepsBalances}
use Rattle.nb_book.proofs.Growing.{front_legal, legal_push, along}
use Rattle.nb_book.proofs.Counting.{found-count, count_by-some, tests_holder, opened-account_of, opening_party, opened_party}
use Rattle.nb_book.proofs.Summing.{party_after, taken_within, total_fits}
use Rattle.nb_book.proofs.Balances.{balance-none, balance_le_total}
use Rattle.nb_book.proofs.Indexing.{both_found, found, first_push, none_of, tests_place}

-- who holds an account does not depend on the place at which its entry is asked
pub holder_anywhere : (a : AcctId) (m n : ℕ) (e : Entry) → holder_at a m e ≡ holder_at a n e
holder_anywhere a m n (Enrol who role acct nonce key) = refl
holder_anywhere a m n other = refl

-- an account that was opened is held
pub held_opened : (H : List Entry) (a : AcctId) → 1 ≤ count_by (opens a) H → IsSome (holder_in H a)
held_opened H a some = found-count (opens a) (holder_at a) (tests_holder a) 0 H ∙ lt-ltb 0 (count_by (opens a) H) (omega (arith, some))

-- an account that has a place is not the house's
pub placed_party : (H : List Entry) → Legal H → (a : AcctId) (at : ℕ) → first_place (opens a) H ≡ Some at → (a.0 == 0) ≡ false
placed_party H legal a at placed =
    opened_party H legal a (count_by-some (opens a) (place_if (opens a)) (tests_place (opens a)) H (ap (λ (x : Option ℕ). is_some x) placed))

-- one that has none has nothing, unless it is the house's
pub nothing_kept : (H : List Entry) → Legal H → (a : AcctId) → (a.0 == 0) ≡ false → first_place (opens a) H ≡ None → balance H a ≡ 0
nothing_kept H legal a party none =
    balance-none H legal a (eqb-false a.0 0 party) (sym (both_found (opens a) (holder_at a) (tests_holder a) H) ∙ ap (λ (x : Option ℕ). is_some x) none)

-- the account of a party is opened at the place of its enrolment, and nowhere before
pub own_place : (H : List Entry) → Legal H → (id : PartyId) (party : Party) → party_in H id ≡ Some party → first_place (opens party.acct) H ≡ Some party.at
own_place H legal = along Placed none more H legal where
  Placed : List Entry → Type 0
  Placed H = (id : PartyId) (party : Party) → party_in H id ≡ Some party → first_place (opens party.acct) H ≡ Some party.at

  none : Placed []
  none id party is = absurd cc

  enrolled_last : (H : List Entry) (e : Entry) → LegalAfter H e → (id : PartyId) (party : Party) → party_at id (0 + length H) e ≡ Some party → first_place (opens party.acct) (H ++ e ∷ []) ≡ Some party.at
  enrolled_last H (Enrol who role acct nonce key) next id party is = part (who.0 == id.0) is where
    here : first_place (opens acct) (H ++ Enrol who role acct nonce key ∷ []) ≡ Some (0 + length H)
    here =
        first_push (place_if (opens acct)) 0 H (Enrol who role acct nonce key)
        ∙ ap (λ (x : Option ℕ). option_or x (place_if (opens acct) (0 + length H) (Enrol who role acct nonce key)))
        (none_of (first_place (opens acct) H) (both_found (opens acct) (holder_at acct) (tests_holder acct) H ∙ next.4))
        ∙ ap (λ (b : Bool). cond b (Some (0 + length H)) None) (eq-eqb acct.0 acct.0 refl)

    part : (b : Bool) → cond b (Some (record { at = 0 + length H; role = role; acct = acct; nonce = nonce; key = key })) None ≡ Some party
        → first_place (opens party.acct) (H ++ Enrol who role acct nonce key ∷ []) ≡ Some party.at
    part true same =
        subst (λ (p : Party). first_place (opens p.acct) (H ++ Enrol who role acct nonce key ∷ []) ≡ Some p.at)
        (same_Some (record { at = 0 + length H; role = role; acct = acct; nonce = nonce; key = key }) party same) here
    part false same = absurd cc
  enrolled_last H other next id party is = absurd cc

  more : (H : List Entry) (e : Entry) → Legal H → LegalAfter H e → Placed H → Placed (H ++ e ∷ [])
  more H e legal next before id party is = part (party_in H id) refl where
    found_now : option_or (party_in H id) (party_at id (0 + length H) e) ≡ Some party
    found_now = sym (first_push (party_at id) 0 H e) ∙ is

    part : (x : Option Party) → party_in H id ≡ x → first_place (opens party.acct) (H ++ e ∷ []) ≡ Some party.at
    part (Some p) found_before =
        let same : p ≡ party = same_Some p party (sym (ap (λ (x : Option Party). option_or x (party_at id (0 + length H) e)) found_before) ∙ found_now) in
        first_push (place_if (opens party.acct)) 0 H e
        ∙ ap (λ (x : Option ℕ). option_or x (place_if (opens party.acct) (0 + length H) e)) (before id party (found_before ∙ ap (λ (q : Party). Some q) same))
    part None found_before =
        enrolled_last H e next id party (sym (ap (λ (x : Option Party). option_or x (party_at id (0 + length H) e)) found_before) ∙ found_now)

-- an enrolment brings nothing into the account that it opens
opening_brings : (a : AcctId) (e : Entry) → opens a e ≡ true → brought a e ≡ 0
opening_brings a (Enrol who role acct nonce key) opens_it = refl
opening_brings a other opens_it = cc

-- balances behind one entry more, which changed them by what it brings and takes
pub kept_push : (H : List Entry) (e : Entry) (before after : List ℕ) → Legal H → LegalAfter H e → KeepsBalances H before → length after ≡ length before
    → ((a : AcctId) (at : ℕ) → first_place (opens a) H ≡ Some at → get_or after at 0 + taken a e ≡ get_or before at 0 + brought a e)
    → KeepsBalances (H ++ e ∷ []) (after ++ 0 ∷ [])
kept_push H e before after legal next kept long moves = record {
  long = omega (arith, length_push after 0, length_push H e, long, kept.long);
  each = λ a at placed. part a at (first_place (opens a) H) refl (sym (first_push (place_if (opens a)) 0 H e) ∙ placed);
} where
  opened_now : (a : AcctId) (at : ℕ) → first_place (opens a) H ≡ None → (b : Bool) → opens a e ≡ b → cond b (Some (0 + length H)) None ≡ Some at
      → get_or (after ++ 0 ∷ []) at 0 ≡ balance (H ++ e ∷ []) a
  opened_now a at none true opens_it last =
      let here : 0 + length H ≡ at = same_Some (0 + length H) at last in
      let behind : length after ≡ at = omega (arith, here, long, kept.long) in
      let party : (a.0 == 0) ≡ false = opening_party H e next a opens_it in
      let value : 0 ≡ balance (H ++ e ∷ []) a = omega (arith, party_after H e legal next a party, nothing_kept H legal a party none, opening_brings a e opens_it) in
      get_or_push after 0 0 at behind ∙ value
  opened_now a at none false other last = absurd cc

  part : (a : AcctId) (at : ℕ) (p : Option ℕ) → first_place (opens a) H ≡ p → option_or (first_place (opens a) H) (place_if (opens a) (0 + length H) e) ≡ Some at
      → get_or (after ++ 0 ∷ []) at 0 ≡ balance (H ++ e ∷ []) a
  part a at (Some i) is placed =
      let here : i ≡ at = same_Some i at (sym (ap (λ (x : Option ℕ). option_or x (place_if (opens a) (0 + length H) e)) is) ∙ placed) in
      let place : first_place (opens a) H ≡ Some at = is ∙ ap (λ (n : ℕ). Some n) here in
      let inside : at < length H = (found (opens a) (holder_at a) (tests_holder a) H at e place).within in
      let front : at < length after = omega (arith, long, kept.long, inside) in
      let value : get_or after at 0 ≡ balance (H ++ e ∷ []) a = omega (arith, moves a at place, kept.each a at place, party_after H e legal next a (placed_party H legal a at place)) in
      get_or_append_left after (0 ∷ []) 0 at front ∙ value
  part a at None is placed =
      opened_now a at is (opens a e) refl (sym (ap (λ (x : Option ℕ). option_or x (place_if (opens a) (0 + length H) e)) is) ∙ placed)

-- ---- the last entry

-- H is a Legal front, and an entry that was legal behind it
pub record Behind (front : List Entry) (e : Entry) (H : List Entry) : Type 0 where
  pub whole : H ≡ front ++ e ∷ []
  pub legal : Legal front
  pub next : LegalAfter front e

pub last_entry : (H : List Entry) (e : Entry) → Legal H → 0 < length H → ((d : Entry) → get_or H (length H - 1) d ≡ e) → Behind (take (length H - 1) H) e H
last_entry H e legal some last =
    let n : ℕ = length H - 1 in
    let inside : n < length H = omega (arith, some) in
    let all : length H ≤ n + 1 = omega (arith, some) in
    record {
      whole = sym (take_all (n + 1) H all) ∙ take_more H n e inside ∙ ap (λ (x : Entry). take n H ++ x ∷ []) (last e);
      legal = front_legal H n legal;
      next = subst (λ (x : Entry). LegalAfter (take n H) x) (last e) (legal.each n inside e);
    }

-- balances without the last entry, which was taken back
pub kept_pop : (front : List Entry) (e : Entry) (H : List Entry) (before after : List ℕ) → Behind front e H → KeepsBalances H before → length after ≡ length before
    → ((a : AcctId) (at : ℕ) → first_place (opens a) H ≡ Some at → get_or after at 0 + brought a e ≡ get_or before at 0 + taken a e)
    → KeepsBalances front (take (length H - 1) after)
kept_pop front e H before after behind kept long moves =
    let count : length H - 1 ≡ length front = omega (arith, length_push front e, ap length behind.whole) in
    record {
      long = length-take-le (length H - 1) after (omega (arith, long, kept.long)) ∙ count;
      each = λ a at placed.
          let inside : at < length front = (found (opens a) (holder_at a) (tests_holder a) front at e placed).within in
          let longer : first_place (opens a) H ≡ Some at =
          ap (λ (xs : List Entry). first_place (opens a) xs) behind.whole ∙ first_push (place_if (opens a)) 0 front e ∙ ap (λ (x : Option ℕ). option_or x (place_if (opens a) (0 + length front) e)) placed in
          let whole : balance H a ≡ balance (front ++ e ∷ []) a = ap (λ (xs : List Entry). balance xs a) behind.whole in
          let value : get_or after at 0 ≡ balance front a =
          omega (arith, moves a at longer, kept.each a at longer, whole, party_after front e behind.legal behind.next a (placed_party front behind.legal a at placed)) in
          get_or-take (length H - 1) after at 0 (omega (arith, count, inside)) ∙ value;
    }

-- ---- the places of two accounts

-- one account has one place
same_place : (H : List Entry) (b a : AcctId) (p at : ℕ) → (b.0 == a.0) ≡ true → first_place (opens b) H ≡ Some p → first_place (opens a) H ≡ Some at → p ≡ at
same_place H b a p at same first second =
    same_Some p at (sym (subst (λ (n : ℕ). first_place (opens (record { 0 = n })) H ≡ Some p) (eqb-true b.0 a.0 same) first) ∙ second)

-- two accounts have two places
other_place : (H : List Entry) (b a : AcctId) (p at : ℕ) → (b.0 == a.0) ≡ false → first_place (opens b) H ≡ Some p → first_place (opens a) H ≡ Some at
    → at ≡ p → ⊥
other_place H b a p at other first second same =
    let d : Entry = Fund (record { 0 = 0 }) 0 [] in
    let there : first_place (opens b) H ≡ Some at = first ∙ ap (λ (n : ℕ). Some n) (sym same) in
    eqb-false b.0 a.0 other
    (one_account (get_or H at d) (found (opens b) (holder_at b) (tests_holder b) H at d there).passes (found (opens a) (holder_at a) (tests_holder a) H at d second).passes)
  where
    one_account : (x : Entry) → opens b x ≡ true → opens a x ≡ true → b.0 ≡ a.0
    one_account (Enrol who role acct nonce key) f s = sym (eqb-true acct.0 b.0 f) ∙ eqb-true acct.0 a.0 s
    one_account x f s = cc

-- so two places are one exactly where the accounts are
one_place : (H : List Entry) (b a : AcctId) (p at : ℕ) → first_place (opens b) H ≡ Some p → first_place (opens a) H ≡ Some at → (p == at) ≡ (b.0 == a.0)
one_place H b a p at first second = part (b.0 == a.0) refl where
  part : (t : Bool) → (b.0 == a.0) ≡ t → (p == at) ≡ t
  part true same = eq-eqb p at (same_place H b a p at same first second)
  part false other = false_from_ne_true (p == at) (λ here. other_place H b a p at other first second (sym (eqb-true p at here)))

-- ---- the money that an entry moves

-- an account that one of the first entries opened is held
pub held_since : (H : List Entry) (n : ℕ) (a : AcctId) → 1 ≤ count_by (opens a) (take n H) → IsSome (holder_in H a)
held_since H n a some = held_opened H a (omega (arith, some, sum_by-take-drop (λ x. cond (opens a x) 1 0) H n))

-- so are the two of a payment
pub accounts_held : (H : List Entry) (n : ℕ) (consumer merchant : PartyId) (cacct macct : AcctId) → AccountsAre (take n H) consumer merchant cacct macct
    → IsSome (holder_in H cacct) × IsSome (holder_in H macct)
accounts_held H n consumer merchant cacct macct are =
    (held_since H n cacct (opened-account_of (take n H) consumer cacct are.0), held_since H n macct (opened-account_of (take n H) merchant macct are.1))

-- what an entry takes from a party's account was there, what it brings into it is there behind it, and each fits 8 bytes with what is there before it is moved,
-- or moved back
record Amounts (H : List Entry) (e : Entry) (a : AcctId) : Type 0 where
  taken_there : taken a e ≤ balance H a
  brought_there : brought a e ≤ balance (H ++ e ∷ []) a
  bring_fits : balance H a + brought a e < 2 ^ 64
  take_fits : balance (H ++ e ∷ []) a + taken a e < 2 ^ 64

amounts : (H : List Entry) (e : Entry) → Legal H → LegalAfter H e → (a : AcctId) → (a.0 == 0) ≡ false → Amounts H e a
amounts H e legal next a party =
    let longer : Legal (H ++ e ∷ []) = legal_push H e legal next in
    let after : balance (H ++ e ∷ []) a + taken a e ≡ balance H a + brought a e = party_after H e legal next a party in
    let there : taken a e ≤ balance H a = taken_within H e next a in
    let fits : balance H a + brought a e < 2 ^ 64 =
    omega (arith, after, there, balance_le_total H legal a, total_fits H legal, balance_le_total (H ++ e ∷ []) longer a, total_fits (H ++ e ∷ []) longer) in
    record {
      taken_there = there;
      brought_there = omega (arith, after, there);
      bring_fits = fits;
      take_fits = omega (arith, after, fits);
    }

-- of all accounts one alone has an amount, and that account has its place here
abbrev pub OfOne : List Entry → ℕ → ℕ → (AcctId → ℕ) → Type 0
OfOne H p amount each = (b : AcctId) × (first_place (opens b) H ≡ Some p) × ((a : AcctId) → each a ≡ cond (b.0 == a.0) amount 0)

module _ (H : List Entry) (p amount : ℕ) (each : AcctId → ℕ) (one : OfOne H p amount each) where
  -- its place is one of the entries
  inside : p < length H
  inside = (found (opens one.0) (holder_at one.0) (tests_holder one.0) H p (Fund (record { 0 = 0 }) 0 []) one.1).within

  -- the amount is that of this account
  own_amount : each one.0 ≡ amount
  own_amount = one.2 one.0 ∙ rw (eq-eqb one.0.0 one.0.0 refl) refl

  -- and an account at a place has it exactly where that is its place
  at_place : (a : AcctId) (at : ℕ) → first_place (opens a) H ≡ Some at → each a ≡ cond (p == at) amount 0
  at_place a at placed = rw (one_place H one.0 a p at one.1 placed) (one.2 a)

-- what may be taken at one place of balances and brought at another
pub record MayTransfer (balances : List ℕ) (p less q more : ℕ) : Type 0 where
  pub payer : p < length balances
  pub payee : q < length balances
  pub held : less ≤ get_or balances p 0
  pub fits : get_or balances q 0 + more < 2 ^ 64

module _ (H : List Entry) (p less q more : ℕ) (f g : AcctId → ℕ) (payer : OfOne H p less f) (payee : OfOne H q more g) where
  -- a transfer may take what is in the one account, and bring what fits beside what is in the other
  may_transfer : (balances : List ℕ) → KeepsBalances H balances → f payer.0 ≤ balance H payer.0 → balance H payee.0 + g payee.0 < 2 ^ 64 → MayTransfer balances p less q more
  may_transfer balances kept held fits = record {
    payer = omega (arith, inside H p less f payer, kept.long);
    payee = omega (arith, inside H q more g payee, kept.long);
    held = omega (arith, kept.each payer.0 p payer.1, own_amount H p less f payer, held);
    fits = omega (arith, kept.each payee.0 q payee.1, own_amount H q more g payee, fits);
  }

  -- it takes from each account and brings into each what the entry does
  pub transferred : (before after : List ℕ) → ((at : ℕ) → get_or after at 0 + cond (p == at) less 0 ≡ get_or before at 0 + cond (q == at) more 0)
      → (a : AcctId) (at : ℕ) → first_place (opens a) H ≡ Some at → get_or after at 0 + f a ≡ get_or before at 0 + g a
  transferred before after each a at placed = omega (arith, each at, at_place H p less f payer a at placed, at_place H q more g payee a at placed)

-- the amounts of an entry that may come next may be transferred
pub may_post : (H : List Entry) (e : Entry) (balances : List ℕ) (p less q more : ℕ) → Legal H → LegalAfter H e → KeepsBalances H balances
    → OfOne H p less (λ a. taken a e) → OfOne H q more (λ a. brought a e) → MayTransfer balances p less q more
may_post H e balances p less q more legal next kept payer payee =
    may_transfer H p less q more (λ a. taken a e) (λ a. brought a e) payer payee balances kept
    (amounts H e legal next payer.0 (placed_party H legal payer.0 p payer.1)).taken_there
    (amounts H e legal next payee.0 (placed_party H legal payee.0 q payee.1)).bring_fits

-- and those of the last entry back
pub may_reverse : (front : List Entry) (e : Entry) (H : List Entry) (balances : List ℕ) (p less q more : ℕ) → Behind front e H → Legal H → KeepsBalances H balances
    → OfOne H p less (λ a. taken a e) → OfOne H q more (λ a. brought a e) → MayTransfer balances q more p less
may_reverse front e H balances p less q more behind legal kept payer payee =
    let whole : (a : AcctId) → balance H a ≡ balance (front ++ e ∷ []) a = λ a. ap (λ (xs : List Entry). balance xs a) behind.whole in
    let from : Amounts front e payee.0 = amounts front e behind.legal behind.next payee.0 (placed_party H legal payee.0 q payee.1) in
    let to : Amounts front e payer.0 = amounts front e behind.legal behind.next payer.0 (placed_party H legal payer.0 p payer.1) in
    may_transfer H q more p less (λ a. brought a e) (λ a. taken a e) payee payer balances kept
    (omega (arith, whole payee.0, from.brought_there)) (omega (arith, whole payer.0, to.take_fits))
