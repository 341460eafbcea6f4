-- The two parties of a payment hold two accounts, since one is a consumer and the other a merchant.
use Rattle.std.proofs.Common.{◌≡◌, ℕ, suc, ◌+◌, ◌-◌, ◌≤◌, Bool, true, false, cond, List, [], ◌∷◌, Option, Some, None, get_or, refl, sym, ap, ◌∙◌, subst, arith}
use Rattle.std.proofs.lemmas.Option.{same_Some}
use Rattle.std.specs.Prelude.{◌==◌}
use Rattle.std.specs.Option.{option_map, option_or}
use Rattle.nb_units.specs.declared.ids.PartyId.{PartyId}
use Rattle.nb_units.specs.declared.ids.AcctId.{AcctId}
use Rattle.nb_entry.specs.declared.entry.Entry.{Entry}
use Rattle.nb_entry.specs.declared.entry.Entry.TheVariants.{Enrol, Fund}
use Rattle.nb_entry.specs.declared.entry.TheConstants.{CONSUMER, MERCHANT}
use Rattle.nb_book.specs.declared.party.Party.{Party}
use Rattle.nb_book.specs.Searches.{first_from, party_at, party_in}
use Rattle.nb_book.specs.Legal.{Legal, RolesAre, AccountsAre}
use Rattle.nb_book.specs.Laws.{opens}
use Rattle.nb_book.specs.Indexes.{first_place}
use Rattle.nb_book.proofs.Keeping.{own_place}

-- the role that an entry enrols in
abbrev role_in : Entry → ℕ
role_in (Enrol who role acct nonce key) = role
role_in other = 0

later : (at : ℕ) (p : Party) (e : Entry) (es : List Entry) (d : Entry) → (at + 1 ≤ p.at) × (role_in (get_or es (p.at - (at + 1)) d) ≡ p.role)
    → (at ≤ p.at) × (role_in (get_or (e ∷ es) (p.at - at) d) ≡ p.role)
later at p e es d rest =
    let next : p.at - at ≡ suc (p.at - (at + 1)) = omega (arith, rest.0) in
    (omega (arith, rest.0), ap (λ (n : ℕ). role_in (get_or (e ∷ es) n d)) next ∙ rest.1)

-- the entry at the place of a party enrols in its role
enrolled_as : (id : PartyId) (d : Entry) (p : Party) (at : ℕ) (H : List Entry) → first_from (party_at id) at H ≡ Some p → (at ≤ p.at) × (role_in (get_or H (p.at - at) d) ≡ p.role)
enrolled_as id d p at [] is = absurd cc
enrolled_as id d p at (Enrol who role acct nonce key ∷ es) is = part (who.0 == id.0) (λ found. enrolled_as id d p (at + 1) es found) is where
  none : (n : ℕ) → n - n ≡ 0
  none n = omega arith

  part : (b : Bool) → (first_from (party_at id) (at + 1) es ≡ Some p → (at + 1 ≤ p.at) × (role_in (get_or es (p.at - (at + 1)) d) ≡ p.role))
      → option_or (cond b (Some (record { at = at; role = role; acct = acct; nonce = nonce; key = key })) None) (first_from (party_at id) (at + 1) es) ≡ Some p
      → (at ≤ p.at) × (role_in (get_or (Enrol who role acct nonce key ∷ es) (p.at - at) d) ≡ p.role)
  part true rest found =
      subst (λ (q : Party). (at ≤ q.at) × (role_in (get_or (Enrol who role acct nonce key ∷ es) (q.at - at) d) ≡ q.role))
      (same_Some (record { at = at; role = role; acct = acct; nonce = nonce; key = key }) p found)
      (omega arith, ap (λ (n : ℕ). role_in (get_or (Enrol who role acct nonce key ∷ es) n d)) (none at))
  part false rest found = later at p (Enrol who role acct nonce key) es d (rest found)
enrolled_as id d p at (e ∷ es) is = later at p e es d (enrolled_as id d p (at + 1) es is)

-- a party with this role and this account
record Enrolled (H : List Entry) (id : PartyId) (role : ℕ) (a : AcctId) : Type 0 where
  pub party : Party
  pub found : party_in H id ≡ Some party
  pub role_is : party.role ≡ role
  pub acct_is : party.acct ≡ a

enrolled : (H : List Entry) (id : PartyId) (role : ℕ) (a : AcctId) → option_map (λ (p : Party). p.role) (party_in H id) ≡ Some role → option_map (λ (p : Party). p.acct) (party_in H id) ≡ Some a
    → Enrolled H id role a
enrolled H id role a roles accounts = part (party_in H id) refl roles accounts where
  part : (x : Option Party) → party_in H id ≡ x → option_map (λ (p : Party). p.role) x ≡ Some role → option_map (λ (p : Party). p.acct) x ≡ Some a → Enrolled H id role a
  part None found r c = absurd cc
  part (Some p) found r c = record { party = p; found = found; role_is = same_Some p.role role r; acct_is = same_Some p.acct a c }

pub two_accounts : (H : List Entry) → Legal H → (consumer merchant : PartyId) (cacct macct : AcctId) → RolesAre H consumer merchant → AccountsAre H consumer merchant cacct macct
    → cacct.0 ≡ macct.0 → ⊥
two_accounts H legal consumer merchant cacct macct roles accounts same =
    let d : Entry = Fund (record { 0 = 0 }) 0 [] in
    let buyer : Enrolled H consumer CONSUMER cacct = enrolled H consumer CONSUMER cacct roles.0 accounts.0 in
    let seller : Enrolled H merchant MERCHANT macct = enrolled H merchant MERCHANT macct roles.1 accounts.1 in
    let accts : buyer.party.acct.0 ≡ seller.party.acct.0 = ap (λ (a : AcctId). a.0) buyer.acct_is ∙ same ∙ sym (ap (λ (a : AcctId). a.0) seller.acct_is) in
    let place : first_place (opens seller.party.acct) H ≡ Some buyer.party.at =
    subst (λ (n : ℕ). first_place (opens (record { 0 = n })) H ≡ Some buyer.party.at) accts (own_place H legal consumer buyer.party buyer.found) in
    let at : buyer.party.at ≡ seller.party.at = same_Some buyer.party.at seller.party.at (sym place ∙ own_place H legal merchant seller.party seller.found) in
    let bought : role_in (get_or H (buyer.party.at - 0) d) ≡ buyer.party.role = (enrolled_as consumer d buyer.party 0 H buyer.found).1 in
    let sold : role_in (get_or H (seller.party.at - 0) d) ≡ seller.party.role = (enrolled_as merchant d seller.party 0 H seller.found).1 in
    let one : CONSUMER ≡ MERCHANT = sym buyer.role_is ∙ sym bought ∙ ap (λ (n : ℕ). role_in (get_or H (n - 0) d)) at ∙ sold ∙ seller.role_is in
    absurd (omega (arith, one))
