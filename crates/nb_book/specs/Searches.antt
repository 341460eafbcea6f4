-- Look-ups in a list of entries. Each gives what the first entry that names its key says, and nothing where none
-- names it. The place of an entry is the number of entries before it.
use Rattle.std.specs.Prelude.{ℕ, ◌+◌, ◌==◌, ◌&&◌, Bool, false, List, [], ◌∷◌, Option, Some, None, if◌then◌else◌}
use Rattle.std.specs.Option.{option_or, option_map}
use Rattle.std.specs.Str.{bytes_eq}
use Rattle.nb_units.specs.declared.ids.PartyId.{PartyId}
use Rattle.nb_units.specs.declared.ids.AcctId.{AcctId}
use Rattle.nb_units.specs.declared.epoid.Epoid.{Epoid}
use Rattle.nb_entry.specs.declared.entry.Entry.{Entry}
use Rattle.nb_entry.specs.declared.entry.Entry.TheVariants.{Enrol, Fund, Paid, Charged, Refused}
use Rattle.nb_book.specs.declared.party.Party.{Party}
use Rattle.nb_book.specs.declared.funded.Funded.{Funded}
use Rattle.nb_book.specs.declared.kept.Kept.{Kept}

-- the first answer that the entries give, the first of them asked at place `at`
abbrev pub first_from : {A : Type 0} → (ℕ → Entry → Option A) → ℕ → List Entry → Option A
first_from answer at [] = None
first_from answer at (e ∷ es) = option_or (answer at e) (first_from answer (at + 1) es)

-- the party that an entry enrols under this number
abbrev pub party_at : PartyId → ℕ → Entry → Option Party
party_at id at (Enrol who role acct nonce key) =
    if who.0 == id.0 then Some (record { at = at; role = role; acct = acct; nonce = nonce; key = key }) else None
party_at id at other = None

-- the party for whom an entry opens this account
abbrev pub holder_at : AcctId → ℕ → Entry → Option PartyId
holder_at a at (Enrol who role acct nonce key) = if acct.0 == a.0 then Some who else None
holder_at a at other = None

-- the fund that an entry makes under this reference
abbrev pub funded_at : List ℕ → ℕ → Entry → Option Funded
funded_at r at (Fund acct amount reference) =
    if bytes_eq reference r then Some (record { at = at; acct = acct; amount = amount }) else None
funded_at r at other = None

-- two identifiers are the same, part by part
abbrev pub same_epoid : Epoid → Epoid → Bool
same_epoid p q = (p.merchant.0 == q.merchant.0) && (p.moment == q.moment) && (p.serial == q.serial)

-- the entry settles the order of this identifier: it pays it, or refuses it
abbrev pub settles : Epoid → Entry → Bool
settles p (Paid digest epoid consumer merchant product price cacct macct moment key) = same_epoid epoid p
settles p (Charged digest epoid consumer merchant product price fee cacct macct moment key) = same_epoid epoid p
settles p (Refused digest epoid consumer merchant product price code a b moment) = same_epoid epoid p
settles p other = false

-- the entry, with its place, where it settles the order of this identifier
abbrev pub order_at : Epoid → ℕ → Entry → Option Kept
order_at p at e = if settles p e then Some (record { at = at; entry = e }) else None

-- the party of this number
abbrev pub party_in : List Entry → PartyId → Option Party
party_in H id = first_from (party_at id) 0 H

-- the party that holds this account
abbrev pub holder_in : List Entry → AcctId → Option PartyId
holder_in H a = first_from (holder_at a) 0 H

-- the fund of this reference
abbrev pub funded_in : List Entry → List ℕ → Option Funded
funded_in H r = first_from (funded_at r) 0 H

-- the payment or refusal of the order of this identifier
abbrev pub order_in : List Entry → Epoid → Option Kept
order_in H p = first_from (order_at p) 0 H

-- the role of the party of this number, if it is enrolled
abbrev pub role_of : List Entry → PartyId → Option ℕ
role_of H id = option_map (λ party. party.role) (party_in H id)

-- its account
abbrev pub account_of : List Entry → PartyId → Option AcctId
account_of H id = option_map (λ party. party.acct) (party_in H id)

-- its nonce
abbrev pub nonce_of : List Entry → PartyId → Option ℕ
nonce_of H id = option_map (λ party. party.nonce) (party_in H id)
