-- Keys of entries: two are one exactly where what they are made of is one.
use Rattle.std.proofs.Common.{◌≡◌, ℕ, ◌<◌, ◌^◌, Bool, true, false, List, take, refl, sym, ap, subst, ◌∙◌, eq-eqb}
use Rattle.std.proofs.lemmas.Bool.{eqb-true, eqb-false, false_from_ne_true, true≢false}
use Rattle.std.proofs.lemmas.Nat.{from_be_bytes-to_be_bytes_4}
use Rattle.std.proofs.lemmas.Slice.Eq.{bytes_eq-Decides}
use Rattle.std.specs.Prelude.{◌==◌}
use Rattle.std.specs.Int.{w32, from_be_bytes}
use Rattle.std.specs.List.{AllByRecursion}
use Rattle.std.specs.Option.{IfSome, IsNone}
use Rattle.std.specs.Str.{bytes_eq}
use Rattle.nb_units.specs.declared.ids.PartyId.{PartyId}
use Rattle.nb_units.specs.declared.ids.AcctId.{AcctId}
use Rattle.nb_units.specs.declared.epoid.Epoid.{Epoid}
use Rattle.nb_units.specs.Epoid.{IsEpoid, epoid_bytes, epoid_of}
use Rattle.nb_units.proofs.EpoidLaws.{reads_back}
use Rattle.nb_index.specs.Puts.{Indexed, value_in}
use Rattle.nb_entry.specs.declared.entry.Entry.{Entry}
use Rattle.nb_entry.specs.declared.entry.Entry.TheVariants.{Enrol, Fund, Paid, Charged, Refused}
use Rattle.nb_book.specs.Searches.{party_at, holder_at, funded_at, same_epoid, settles, order_at, order_in}
use Rattle.nb_book.specs.Legal.{LegalAfter}
use Rattle.nb_book.specs.Laws.{enrols, opens, cites}
use Rattle.nb_book.specs.Indexes.{Indexes, KeysFit, name_key, party_key, account_key, reference_key, order_key}
use Rattle.nb_book.proofs.Counting.{same_epoid-true, tests_party, tests_holder, tests_funded, tests_order}
use Rattle.nb_book.proofs.Indexing.{StandsFor, absent}

-- numbers of 4 bytes with one key are one
one_name : (m n : ℕ) → m < 2 ^ 32 → n < 2 ^ 32 → name_key m ≡ name_key n → m ≡ n
unfolding name_key
one_name m n fit fits same =
    sym (from_be_bytes-to_be_bytes_4 m fit)
    ∙ ap (λ (bytes : List ℕ). from_be_bytes w32 (take 4 bytes)) same
    ∙ from_be_bytes-to_be_bytes_4 n fits

tests_name : (m n : ℕ) → m < 2 ^ 32 → n < 2 ^ 32 → bytes_eq (name_key m) (name_key n) ≡ (m == n)
tests_name m n fit fits = part (m == n) refl where
  part : (b : Bool) → (m == n) ≡ b → bytes_eq (name_key m) (name_key n) ≡ b
  part true same =
      subst (λ (x : ℕ). bytes_eq (name_key m) (name_key x) ≡ true) (eqb-true m n same) ((bytes_eq-Decides (name_key m) (name_key m)).1 refl)
  part false other =
      false_from_ne_true (bytes_eq (name_key m) (name_key n)) (λ same. eqb-false m n other (one_name m n fit fits ((bytes_eq-Decides (name_key m) (name_key n)).0 same)))

same_epoid-self : (p : Epoid) → same_epoid p p ≡ true
same_epoid-self p = rw (eq-eqb p.merchant.0 p.merchant.0 refl, eq-eqb p.moment p.moment refl, eq-eqb p.serial p.serial refl) refl

-- identifiers with one spelling are one
one_epoid : (p q : Epoid) → IsEpoid p → IsEpoid q → epoid_bytes p ≡ epoid_bytes q → p ≡ q
one_epoid p q fit fits same = sym (reads_back p fit) ∙ ap epoid_of same ∙ reads_back q fits

tests_epoid : (p q : Epoid) → IsEpoid p → IsEpoid q → bytes_eq (epoid_bytes p) (epoid_bytes q) ≡ same_epoid p q
tests_epoid p q fit fits = part (same_epoid p q) refl where
  part : (b : Bool) → same_epoid p q ≡ b → bytes_eq (epoid_bytes p) (epoid_bytes q) ≡ b
  part true same =
      subst (λ (x : Epoid). bytes_eq (epoid_bytes p) (epoid_bytes x) ≡ true) (same_epoid-true p q same) ((bytes_eq-Decides (epoid_bytes p) (epoid_bytes p)).1 refl)
  part false other =
      false_from_ne_true (bytes_eq (epoid_bytes p) (epoid_bytes q)) (λ same.
      let one : p ≡ q = one_epoid p q fit fits ((bytes_eq-Decides (epoid_bytes p) (epoid_bytes q)).0 same) in
      true≢false (sym (subst (λ (x : Epoid). same_epoid p x ≡ true) one (same_epoid-self p)) ∙ other))

pub party_stands : (id : PartyId) → id.0 < 2 ^ 32 → StandsFor party_key (name_key id.0) (enrols id)
party_stands id fits (Enrol who role acct nonce key) fit = tests_name who.0 id.0 fit.0 fits
party_stands id fits other fit = refl

pub account_stands : (a : AcctId) → a.0 < 2 ^ 32 → StandsFor account_key (name_key a.0) (opens a)
account_stands a fits (Enrol who role acct nonce key) fit = tests_name acct.0 a.0 fit.1 fits
account_stands a fits other fit = refl

pub reference_stands : (r : List ℕ) → StandsFor reference_key r (cites r)
reference_stands r (Fund acct amount reference) fit = refl
reference_stands r other fit = refl

pub order_stands : (p : Epoid) → IsEpoid p → StandsFor order_key (epoid_bytes p) (settles p)
order_stands p fits (Paid digest epoid consumer merchant product price cacct macct moment key) fit = tests_epoid epoid p fit fits
order_stands p fits (Charged digest epoid consumer merchant product price fee cacct macct moment key) fit = tests_epoid epoid p fit fits
order_stands p fits (Refused digest epoid consumer merchant product price code a b moment) fit = tests_epoid epoid p fit fits
order_stands p fits other fit = refl

-- ---- a key of an entry that may come next was not put

module _ (H : List Entry) (cap : ℕ) (index : Indexed) (fit : AllByRecursion KeysFit H) where
  pub party_new : Indexes party_key cap index H → (e : Entry) → LegalAfter H e → KeysFit e → IfSome (party_key e) (λ k. IsNone (value_in index.puts k))
  party_new indexes (Enrol id role acct nonce key) next fits =
      absent party_key cap index H (name_key id.0) (enrols id) (party_at id) indexes fit (party_stands id fits.0) (tests_party id) next.3
  party_new indexes other next fits = tt

  pub account_new : Indexes account_key cap index H → (e : Entry) → LegalAfter H e → KeysFit e → IfSome (account_key e) (λ k. IsNone (value_in index.puts k))
  account_new indexes (Enrol id role acct nonce key) next fits =
      absent account_key cap index H (name_key acct.0) (opens acct) (holder_at acct) indexes fit (account_stands acct fits.1) (tests_holder acct) next.4
  account_new indexes other next fits = tt

  pub reference_new : Indexes reference_key cap index H → (e : Entry) → LegalAfter H e → IfSome (reference_key e) (λ k. IsNone (value_in index.puts k))
  reference_new indexes (Fund acct amount reference) next =
      absent reference_key cap index H reference (cites reference) (funded_at reference) indexes fit (reference_stands reference) (tests_funded reference) next.3
  reference_new indexes other next = tt

  unsettled : Indexes order_key cap index H → (p : Epoid) → IsEpoid p → IsNone (order_in H p) → IsNone (value_in index.puts (epoid_bytes p))
  unsettled indexes p fits none = absent order_key cap index H (epoid_bytes p) (settles p) (order_at p) indexes fit (order_stands p fits) (tests_order p) none

  pub order_new : Indexes order_key cap index H → (e : Entry) → LegalAfter H e → KeysFit e → IfSome (order_key e) (λ k. IsNone (value_in index.puts k))
  order_new indexes (Paid digest epoid consumer merchant product price cacct macct moment key) next fits = unsettled indexes epoid fits next.0.0
  order_new indexes (Charged digest epoid consumer merchant product price fee cacct macct moment key) next fits = unsettled indexes epoid fits next.0.0.0
  order_new indexes (Refused digest epoid consumer merchant product price code a b moment) next fits = unsettled indexes epoid fits next.0.0
  order_new indexes other next fits = tt
