-- The one spelling of an entry: its kind, and then its fields. Numbers are big-endian. The kind and the widths make each
-- entry its own end, so an item of a journal is entries one behind the other.
use Rattle.std.specs.Prelude.{◌≡◌, ◌⊎◌, ℕ, ◌<◌, ◌≤◌, ◌^◌, List, [], ◌∷◌, ◌++◌, length, flat_map}
use Rattle.std.specs.List.{AllByRecursion}
use Rattle.nb_units.specs.Fields.{be4, be8}
use Rattle.nb_units.specs.Epoid.{IsEpoid, epoid_bytes}
use Rattle.nb_entry.specs.declared.entry.Entry.{Entry}
use Rattle.nb_entry.specs.declared.entry.Entry.TheVariants.{Enrol, Fund, Paid, Charged, Refused}
use Rattle.nb_entry.specs.declared.entry.TheConstants.{CONSUMER, MERCHANT}
use Rattle.nb_entry.specs.declared.spelling.OrderTerms.{OrderTerms}
use Rattle.nb_units.specs.Reasons.{IsReason}
use Rattle.nb_entry.specs.declared.spelling.TheConstants.{ENROL_ENTRY, FUND_ENTRY, PAID_ENTRY, REFUSED_ENTRY, CHARGED_ENTRY, MAX_ITEM_ENTRIES}

-- 01 | party 4 | role 1 | account 4 | nonce 8 | key 32
-- 02 | account 4 | amount 8 | reference 16
-- 03 | digest 32 | identifier 16 | consumer 4 | merchant 4 | product 4 | price 8 | consumer's account 4 | merchant's account 4
--    | moment 8 | key 32
-- 04 | digest 32 | identifier 16 | consumer 4 | merchant 4 | product 4 | price 8 | code 1 | a 8 | b 8 | moment 8
-- 05 | digest 32 | identifier 16 | consumer 4 | merchant 4 | product 4 | price 8 | fee 8 | consumer's account 4 | merchant's account 4
--    | moment 8 | key 32
unfoldable pub entry_bytes : Entry → List ℕ
entry_bytes (Enrol id role acct nonce key) = (ENROL_ENTRY ∷ []) ++ be4 id.0 ++ (role ∷ []) ++ be4 acct.0 ++ be8 nonce ++ key
entry_bytes (Fund acct amount reference) = (FUND_ENTRY ∷ []) ++ be4 acct.0 ++ be8 amount ++ reference
entry_bytes (Paid digest epoid consumer merchant product price cacct macct moment key) =
    (PAID_ENTRY ∷ []) ++ digest ++ epoid_bytes epoid ++ be4 consumer.0 ++ be4 merchant.0 ++ be4 product ++ be8 price.0 ++ be4 cacct.0 ++ be4 macct.0 ++ be8 moment ++ key
entry_bytes (Charged digest epoid consumer merchant product price fee cacct macct moment key) =
    (CHARGED_ENTRY ∷ []) ++ digest ++ epoid_bytes epoid ++ be4 consumer.0 ++ be4 merchant.0 ++ be4 product ++ be8 price.0 ++ be8 fee ++ be4 cacct.0 ++ be4 macct.0 ++ be8 moment ++ key
entry_bytes (Refused digest epoid consumer merchant product price code a b moment) =
    (REFUSED_ENTRY ∷ []) ++ digest ++ epoid_bytes epoid ++ be4 consumer.0 ++ be4 merchant.0 ++ be4 product ++ be8 price.0 ++ (code ∷ []) ++ be8 a ++ be8 b ++ be8 moment

-- what a payment and a refusal both say, behind their kind
abbrev pub terms_bytes : OrderTerms → List ℕ
terms_bytes t = t.digest ++ epoid_bytes t.epoid ++ be4 t.consumer.0 ++ be4 t.merchant.0 ++ be4 t.product ++ be8 t.price.0

-- each of them is within its limits
abbrev pub AreOrderTerms : OrderTerms → Type 0
AreOrderTerms t = (length t.digest ≡ 32) × IsEpoid t.epoid × (t.consumer.0 < 2 ^ 32) × (t.merchant.0 < 2 ^ 32) × (t.product < 2 ^ 32) × (t.price.0 < 2 ^ 64)

-- how many bytes an entry of its kind has
abbrev pub bytes_of_kind : Entry → ℕ
bytes_of_kind (Enrol id role acct nonce key) = 50
bytes_of_kind (Fund acct amount reference) = 29
bytes_of_kind (Paid digest epoid consumer merchant product price cacct macct moment key) = 117
bytes_of_kind (Charged digest epoid consumer merchant product price fee cacct macct moment key) = 125
bytes_of_kind (Refused digest epoid consumer merchant product price code a b moment) = 94

-- an entry may have this role
abbrev pub IsRole : ℕ → Type 0
IsRole role = (role ≡ CONSUMER) ⊎ (role ≡ MERCHANT)

-- the rules of an entry beyond the widths of its fields, which every entry that a program holds fits: a role that a party
-- may have, a code that a refused order may have
abbrev pub EntryKeepsRules : Entry → Type 0
EntryKeepsRules (Enrol id role acct nonce key) = IsRole role
EntryKeepsRules (Refused digest epoid consumer merchant product price code a b moment) = IsReason code
EntryKeepsRules other = Unit {0}

-- each field of an entry is within its limits
abbrev pub IsEntry : Entry → Type 0
IsEntry (Enrol id role acct nonce key) = (id.0 < 2 ^ 32) × IsRole role × (acct.0 < 2 ^ 32) × (nonce < 2 ^ 64) × (length key ≡ 32)
IsEntry (Fund acct amount reference) = (acct.0 < 2 ^ 32) × (amount < 2 ^ 64) × (length reference ≡ 16)
IsEntry (Paid digest epoid consumer merchant product price cacct macct moment key) =
    (length digest ≡ 32) × IsEpoid epoid
    × (consumer.0 < 2 ^ 32) × (merchant.0 < 2 ^ 32) × (product < 2 ^ 32) × (price.0 < 2 ^ 64)
    × (cacct.0 < 2 ^ 32) × (macct.0 < 2 ^ 32) × (moment < 2 ^ 64) × (length key ≡ 32)
IsEntry (Charged digest epoid consumer merchant product price fee cacct macct moment key) =
    (length digest ≡ 32) × IsEpoid epoid
    × (consumer.0 < 2 ^ 32) × (merchant.0 < 2 ^ 32) × (product < 2 ^ 32) × (price.0 < 2 ^ 64) × (fee < 2 ^ 64)
    × (cacct.0 < 2 ^ 32) × (macct.0 < 2 ^ 32) × (moment < 2 ^ 64) × (length key ≡ 32)
IsEntry (Refused digest epoid consumer merchant product price code a b moment) =
    (length digest ≡ 32) × IsEpoid epoid
    × (consumer.0 < 2 ^ 32) × (merchant.0 < 2 ^ 32) × (product < 2 ^ 32) × (price.0 < 2 ^ 64)
    × IsReason code × (a < 2 ^ 64) × (b < 2 ^ 64) × (moment < 2 ^ 64)

-- entries one behind the other
abbrev pub entries_bytes : List Entry → List ℕ
entries_bytes es = flat_map entry_bytes es

-- an item of a journal is from 1 to 32 entries, each within its limits
pub record Spells (item : List ℕ) (es : List Entry) : Type 0 where
  pub bytes : item ≡ entries_bytes es
  pub each : AllByRecursion IsEntry es
  pub some : 1 ≤ length es
  pub most : length es ≤ MAX_ITEM_ENTRIES
