-- What a list of entries keeps beside its entries, and how that is tied to them.
use Rattle.std.specs.Prelude.{◌≡◌, ℕ, ◌+◌, ◌*◌, ◌<◌, ◌≤◌, ◌^◌, Bool, List, [], ◌∷◌, ◌++◌, Option, Some, None, length, slice_index, vec_capacity, if◌then◌else◌}
use Rattle.std.specs.List.{AllByRecursion}
use Rattle.nb_units.specs.declared.ids.AcctId.{AcctId}
use Rattle.nb_units.specs.Fields.{be4}
use Rattle.nb_units.specs.Epoid.{IsEpoid, epoid_bytes}
use Rattle.nb_units.specs.declared.limits.TheConstants.{MAX_CAP}
use Rattle.nb_index.specs.declared.put.Put.{Put}
use Rattle.nb_index.specs.Puts.{Indexed, IsShaped, Shape}
use Rattle.nb_entry.specs.declared.entry.Entry.{Entry}
use Rattle.nb_entry.specs.declared.entry.Entry.TheVariants.{Enrol, Fund, Paid, Charged, Refused}
use Rattle.nb_book.specs.declared.list.EntryList.{EntryList}
use Rattle.nb_book.specs.declared.list.EmptyIndexes.{EmptyIndexes}
use Rattle.nb_book.specs.Searches.{first_from}
use Rattle.nb_book.specs.Money.{balance, fees, total}
use Rattle.nb_book.specs.Laws.{opens}

-- the key of a number of 4 bytes: the number, big-endian, and twelve zeros
unfoldable pub name_key : ℕ → List ℕ
name_key n = be4 n ++ 0 ∷ 0 ∷ 0 ∷ 0 ∷ 0 ∷ 0 ∷ 0 ∷ 0 ∷ 0 ∷ 0 ∷ 0 ∷ 0 ∷ []

-- the key under which an entry stands in the index of parties
abbrev pub party_key : Entry → Option (List ℕ)
party_key (Enrol id role acct nonce key) = Some (name_key id.0)
party_key other = None

-- in the index of accounts
abbrev pub account_key : Entry → Option (List ℕ)
account_key (Enrol id role acct nonce key) = Some (name_key acct.0)
account_key other = None

-- in the index of references
abbrev pub reference_key : Entry → Option (List ℕ)
reference_key (Fund acct amount reference) = Some reference
reference_key other = None

-- in the index of orders
abbrev pub order_key : Entry → Option (List ℕ)
order_key (Paid digest epoid consumer merchant product price cacct macct moment key) = Some (epoid_bytes epoid)
order_key (Charged digest epoid consumer merchant product price fee cacct macct moment key) = Some (epoid_bytes epoid)
order_key (Refused digest epoid consumer merchant product price code a b moment) = Some (epoid_bytes epoid)
order_key other = None

-- what keys are made of fits its width
abbrev pub KeysFit : Entry → Type 0
KeysFit (Enrol id role acct nonce key) = (id.0 < 2 ^ 32) × (acct.0 < 2 ^ 32)
KeysFit (Fund acct amount reference) = Unit {0}
KeysFit (Paid digest epoid consumer merchant product price cacct macct moment key) = IsEpoid epoid
KeysFit (Charged digest epoid consumer merchant product price fee cacct macct moment key) = IsEpoid epoid
KeysFit (Refused digest epoid consumer merchant product price code a b moment) = IsEpoid epoid

-- one put of a place, or none
abbrev pub puts_at : Option (List ℕ) → ℕ → List Put
puts_at (Some k) at = record { key = k; value = at } ∷ []
puts_at None at = []

-- each entry that has a key is put with its place
abbrev pub puts_from : (Entry → Option (List ℕ)) → ℕ → List Entry → List Put
puts_from key at [] = []
puts_from key at (e ∷ es) = puts_at (key e) at ++ puts_from key (at + 1) es

-- the place of an entry, if it passes a test
abbrev pub place_if : (Entry → Bool) → ℕ → Entry → Option ℕ
place_if test at e = if test e then Some at else None

-- the place of the first entry that passes a test
abbrev pub first_place : (Entry → Bool) → List Entry → Option ℕ
first_place test H = first_from (place_if test) 0 H

-- the slots of an index: more than twice as many as there can be entries
abbrev pub slots_for : ℕ → ℕ
slots_for cap = 2 * cap + 2

-- an index without a put, for so many entries
pub record IsEmptyIndex (cap : ℕ) (key : List ℕ) (index : Indexed) : Type 0 where
  pub puts : index.puts ≡ []
  pub shape : IsShaped (slots_for cap) key index.shape

-- four of them
pub record AreEmptyIndexes (cap : ℕ) (key : List ℕ) (made : EmptyIndexes) : Type 0 where
  pub parties : IsEmptyIndex cap key made.parties
  pub accounts : IsEmptyIndex cap key made.accounts
  pub references : IsEmptyIndex cap key made.references
  pub orders : IsEmptyIndex cap key made.orders

-- an index of the entries that have such a key
pub record Indexes (key : Entry → Option (List ℕ)) (cap : ℕ) (index : Indexed) (H : List Entry) : Type 0 where
  pub puts : index.puts ≡ puts_from key 0 H
  pub slots : index.shape.slots ≡ slots_for cap

-- there is a number for each entry, and at the place of the enrolment that opens an account it is the account's balance
pub record KeepsBalances (H : List Entry) (balances : List ℕ) : Type 0 where
  pub long : length balances ≡ length H
  pub each : (a : AcctId) (at : ℕ) → first_place (opens a) H ≡ Some at → slice_index balances at ≡ balance H a

-- what the list keeps beside its entries is that of the entries H
pub record Tied (list : EntryList) (H : List Entry) : Type 0 where
  pub most : list.cap ≤ MAX_CAP
  pub fit : AllByRecursion KeysFit H
  pub parties : Indexes party_key list.cap list.parties H
  pub accounts : Indexes account_key list.cap list.accounts H
  pub references : Indexes reference_key list.cap list.references H
  pub orders : Indexes order_key list.cap list.orders H
  pub balances : KeepsBalances H list.balances.items
  pub room : list.cap ≤ vec_capacity list.balances
  pub sum : list.total ≡ total H
  pub fees : list.fees ≡ fees H

-- for how many entries, and for how many balances, it has memory
abbrev pub list_places : EntryList → List ℕ
list_places list = vec_capacity list.entries ∷ vec_capacity list.balances ∷ []

-- the shapes of its indexes
abbrev pub list_indexes : EntryList → List Shape
list_indexes list = list.parties.shape ∷ list.accounts.shape ∷ list.references.shape ∷ list.orders.shape ∷ []
