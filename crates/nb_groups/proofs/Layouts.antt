-- What a credential says, as a row of fields.
use Rattle.std.proofs.Common.{◌≡◌, ◌↔◌, ℕ, ◌*◌, ◌<◌, ◌≤◌, ◌^◌, Bool, true, false, cond, nat_lt, List, [], ◌∷◌, ◌++◌, length, drop, Ok, Err, Result, refl, sym, ap, subst, ◌∙◌, arith, eq-eqb}
use Rattle.std.specs.Prelude.{◌==◌, ◌&&◌, nat_le, codes}
use Rattle.std.specs.Int.{w32, from_be_bytes}
use Rattle.std.specs.List.{AllByRecursion}
use Rattle.std.proofs.lemmas.Bool.{eqb-true, leb-true, ltb-false, le-ltb, true≢false, false≢true}
use Rattle.std.proofs.lemmas.List.{drop_at}
use Rattle.std.proofs.lemmas.Nat.{from_be_bytes-to_be_bytes_4, be_bytes_4}
use Rattle.nb_units.proofs.Rows.{Row, IsRow, ◌&◌, and_row, number4, number4_row, number8, number8_row, text, text_row, tested, tested_row, whole, whole_found, whole_reads, ok_is}
use Rattle.nb_units.proofs.ByteLists.{AreBytes-drop, AreBytes-take, number_fits_4}
use Rattle.nb_units.specs.Frames.{AreBytes}
use Rattle.nb_units.specs.Fields.{be4, be8, sized}
use Rattle.nb_seal.proofs.Opening.{length-seal_of}
use Rattle.nb_groups.specs.declared.limits.TheConstants.{GROUPS_BYTES}
use Rattle.nb_groups.specs.declared.membership.Membership.{Membership}
use Rattle.nb_groups.specs.declared.quoting.Denial.{Denial}
use Rattle.nb_groups.specs.declared.quoting.Denial.TheVariants as denial
use Rattle.nb_groups.specs.Groups.{are_groups, groups_bytes, groups_in, are_groups_bytes}
use Rattle.nb_groups.specs.Spelling.{IsMembership, membership_bytes, credential_of}
use Rattle.nb_groups.specs.Reading.{membership_of, or_malformed}
use Rattle.nb_groups.specs.Laws.{MembershipReadsBack, MembershipSpellsBack, OneMembership, CredentialOpens, HoldsUntil}
use Rattle.nb_groups.proofs.Opening.{opened_so}

-- ---- groups

both : (x y : Bool) → (x && y) ≡ true → (x ≡ true) × (y ≡ true)
both true y e = (refl, e)
both false y e = absurd (false≢true e)

-- four bytes for each
long : (groups : List ℕ) → length (groups_bytes groups) ≡ 4 * length groups
long [] = refl
long (g ∷ groups) = let rest : length (groups_bytes groups) ≡ 4 * length groups = long groups in omega (arith, rest)

-- what was spelled of numbers is read as them
read_back : (groups : List ℕ) → AllByRecursion (λ g. g < 2 ^ 32) groups → groups_in (groups_bytes groups) ≡ groups
read_back [] all = refl
read_back (g ∷ groups) all = rw (from_be_bytes-to_be_bytes_4 g all.0, read_back groups all.1) refl

-- what was read of bytes is spelled as they are
spell_back : (t : List ℕ) → AreBytes t → length t ≡ 4 * length (groups_in t) → (groups_bytes (groups_in t) ≡ t) × AllByRecursion (λ g. g < 2 ^ 32) (groups_in t)
spell_back [] are e = (refl, tt)
spell_back (a ∷ []) are e = absurd (omega (arith, e))
spell_back (a ∷ b ∷ []) are e = absurd (omega (arith, e))
spell_back (a ∷ b ∷ c ∷ []) are e = absurd (omega (arith, e))
spell_back (a ∷ b ∷ c ∷ d ∷ t) are e =
    let four : AreBytes (a ∷ b ∷ c ∷ d ∷ []) = AreBytes-take 4 (a ∷ b ∷ c ∷ d ∷ t) are in
    let rest = spell_back t (AreBytes-drop 4 (a ∷ b ∷ c ∷ d ∷ t) are) (omega (arith, e)) in
    let number : be4 (from_be_bytes w32 (a ∷ b ∷ c ∷ d ∷ [])) ≡ a ∷ b ∷ c ∷ d ∷ [] = be_bytes_4 (a ∷ b ∷ c ∷ d ∷ []) _ refl four refl in (
      ap (λ (l : List ℕ). l ++ groups_bytes (groups_in t)) number ∙ ap (λ (l : List ℕ). a ∷ b ∷ c ∷ d ∷ l) rest.0,
      (number_fits_4 (a ∷ b ∷ c ∷ d ∷ []) four, rest.1),
    )

-- the bytes of the groups of a credential pass the test of their reader, and no others
test_is : (t : List ℕ) → are_groups_bytes t ≡ true → (length t ≡ 4 * length (groups_in t)) × (are_groups (groups_in t) ≡ true)
test_is t e = let parts = both (length t == 4 * length (groups_in t)) (are_groups (groups_in t)) e in (eqb-true (length t) (4 * length (groups_in t)) parts.0, parts.1)

is_test : (groups : List ℕ) → AllByRecursion (λ g. g < 2 ^ 32) groups → are_groups groups ≡ true → are_groups_bytes (groups_bytes groups) ≡ true
is_test groups all is = rw (read_back groups all, eq-eqb (length (groups_bytes groups)) (4 * length groups) (long groups), is) refl

few : (groups : List ℕ) → are_groups groups ≡ true → length groups ≤ 4
few groups is = leb-true (length groups) 4 (both (nat_lt 0 (length groups)) (nat_le (length groups) 4) (both (nat_lt 0 (length groups) && nat_le (length groups) 4) _ is).0).1

-- ---- the whole text

abbrev Parts : Type 0
Parts = (ℕ × ℕ) × List ℕ

abbrev parts_row : Row Parts
parts_row = number4 & number8 & tested (text GROUPS_BYTES) are_groups_bytes

is_parts_row : IsRow parts_row
is_parts_row = and_row (and_row number4_row number8_row) (tested_row (text GROUPS_BYTES) are_groups_bytes (text_row GROUPS_BYTES (omega arith)))

abbrev made : Parts → Membership
made p = record { consumer = record { 0 = p.0.0 }; until = p.0.1; groups = groups_in p.1 }

read_so : (bytes : List ℕ) → membership_of bytes ≡ whole parts_row Membership bytes (λ p. Ok (made p))
unfolding membership_of
read_so bytes = refl

spelled_so : (p : Parts) → groups_bytes (groups_in p.1) ≡ p.1 → parts_row.spelled p ≡ membership_bytes (made p)
unfolding membership_bytes
spelled_so p same = ap (λ (t : List ℕ). be4 p.0.0 ++ be8 p.0.1 ++ sized t) (sym same)

-- the text of the groups is a part of the bytes
text_bytes : (p : Parts) (bytes : List ℕ) → AreBytes bytes → bytes ≡ parts_row.spelled p → AreBytes p.1
text_bytes p bytes are e =
    subst AreBytes (ap (drop 16) e ∙ drop_at (be4 p.0.0 ++ be8 p.0.1 ++ be4 (length p.1)) p.1 16 refl) (AreBytes-drop 16 bytes are)

pub spells_back : MembershipSpellsBack
spells_back bytes m are e =
    let w = whole_found parts_row is_parts_row Membership bytes (λ p. Ok (made p)) m are (sym (read_so bytes) ∙ e) in
    let test = test_is w.0.1 w.1.1.1 in
    let groups = spell_back w.0.1 (text_bytes w.0 bytes are w.2) test.0 in
    subst (λ (x : Membership). IsMembership x × (bytes ≡ membership_bytes x)) (ok_is (made w.0) m w.3)
    (record { consumer = w.1.0.0; until = w.1.0.1; groups = test.1; each = groups.1 }, w.2 ∙ spelled_so w.0 groups.0)

spelled_as : (m : Membership) → membership_bytes m ≡ parts_row.spelled ((m.consumer.0, m.until), groups_bytes m.groups)
unfolding membership_bytes
spelled_as m = refl

pub reads_back : MembershipReadsBack
reads_back m is =
    let p : Parts = ((m.consumer.0, m.until), groups_bytes m.groups) in
    let same : groups_in (groups_bytes m.groups) ≡ m.groups = read_back m.groups is.each in
    let short : length (groups_bytes m.groups) ≤ 16 = omega (arith, long m.groups, few m.groups is.groups) in
    read_so (membership_bytes m)
    ∙ whole_reads parts_row is_parts_row Membership (membership_bytes m) (λ q. Ok (made q)) p ((is.consumer, is.until), (short, is_test m.groups is.each is.groups)) (spelled_as m)
    ∙ ap (λ (groups : List ℕ). let x : Result Membership ℕ = Ok (record { consumer = m.consumer; until = m.until; groups = groups }) in x) same

pub one_membership : OneMembership
one_membership a b first second same = ok_is a b (sym (reads_back a first) ∙ ap membership_of same ∙ reads_back b second)

-- ---- what is opened

not_zero : (n : ℕ) → 0 < n → (n == 0) ≡ false
not_zero n some = by (n == 0) refl
  where
    by : (b : Bool) → (n == 0) ≡ b → b ≡ false
    by true e = absurd (omega (arith, some, eqb-true n 0 e))
    by false e = refl

pub credential_opens : CredentialOpens
credential_opens key m is =
    opened_so key (credential_of key m) (membership_bytes m) some refl ∙ ap or_malformed (reads_back m is)
  where
    some : (length (credential_of key m) == 0) ≡ false
    some = not_zero (length (credential_of key m)) (omega (arith, length-seal_of key (codes "cred") (membership_bytes m)))

pub holds_until : HoldsUntil
holds_until m asked now = part (m.consumer.0 == asked.0) refl (nat_lt m.until now) refl
  where
    holds : (b c : Bool) → Result Membership Denial
    holds b c = cond b (cond c (Err (denial.Expired m.until now)) (Ok m)) (Err (denial.WrongConsumer m.consumer asked))

    part : (b : Bool) → (m.consumer.0 == asked.0) ≡ b → (c : Bool) → nat_lt m.until now ≡ c → (holds b c ≡ Ok m) ↔ ((m.consumer.0 ≡ asked.0) × (now ≤ m.until))
    part true same true over = (λ e. absurd (never e), λ p. absurd (true≢false (sym over ∙ le-ltb m.until now p.1)))
      where
        never : Err (denial.Expired m.until now) ≡ Ok m → ⊥
        never e = cc
    part true same false over = (λ e. (eqb-true m.consumer.0 asked.0 same, ltb-false m.until now over), λ p. refl)
    part false other c over = (λ e. absurd (never e), λ p. absurd (true≢false (sym (eq-eqb m.consumer.0 asked.0 p.0) ∙ other)))
      where
        never : Err (denial.WrongConsumer m.consumer asked) ≡ Ok m → ⊥
        never e = cc
