-- The entry that stands at the front of bytes, read field by field at the place of each: the entry, or the place of the
-- first field that fails. What follows the entry is free.
use Rattle.std.specs.Prelude.{◌≡◌, ℕ, ◌+◌, ◌==◌, ◌||◌, if◌then◌else◌, Bool, List, length, drop, Result, Ok, Err}
use Rattle.nb_units.specs.Reading.{Reading}
use Rattle.nb_units.specs.Fields.{◌>>=◌, u8_at, u32_at, u64_at, raw_at, or_place, allowed, moved}
use Rattle.nb_units.specs.Epoid.{epoid_of}
use Rattle.nb_entry.specs.declared.entry.Entry.{Entry}
use Rattle.nb_entry.specs.declared.entry.Entry.TheVariants.{Enrol, Fund, Paid, Charged, Refused}
use Rattle.nb_entry.specs.declared.entry.TheConstants.{CONSUMER, MERCHANT}
use Rattle.nb_units.specs.Reasons.{is_reason}
use Rattle.nb_entry.specs.declared.spelling.OrderTerms.{OrderTerms}
use Rattle.nb_entry.specs.declared.spelling.TheConstants.{ENROL_ENTRY, FUND_ENTRY, PAID_ENTRY, REFUSED_ENTRY, CHARGED_ENTRY}
use Rattle.nb_entry.specs.declared.spelling.EntryFault.{EntryFault}
use Rattle.nb_entry.specs.Spelling.{entry_bytes}

-- a party may have this role
abbrev pub is_role : ℕ → Bool
is_role role = role == CONSUMER || role == MERCHANT

-- behind the kind of an enrolment
unfoldable pub enrol_of : List ℕ → Result Entry ℕ
enrol_of bytes = do
  id ← or_place (u32_at bytes 1)
  role ← or_place (u8_at bytes 5)
  role_is ← allowed (is_role role) 5
  acct ← or_place (u32_at bytes 6)
  nonce ← or_place (u64_at bytes 10)
  key ← or_place (raw_at 32 bytes 18)
  Ok (Enrol (record { 0 = id }) role (record { 0 = acct }) nonce key)

-- behind the kind of a fund
unfoldable pub fund_of : List ℕ → Result Entry ℕ
fund_of bytes = do
  acct ← or_place (u32_at bytes 1)
  amount ← or_place (u64_at bytes 5)
  reference ← or_place (raw_at 16 bytes 13)
  Ok (Fund (record { 0 = acct }) amount reference)

-- what a payment and a refusal both say, behind their kind
unfoldable pub terms_of : List ℕ → Result OrderTerms ℕ
terms_of bytes = do
  digest ← or_place (raw_at 32 bytes 1)
  epoid ← or_place (raw_at 16 bytes 33)
  consumer ← or_place (u32_at bytes 49)
  merchant ← or_place (u32_at bytes 53)
  product ← or_place (u32_at bytes 57)
  price ← or_place (u64_at bytes 61)
  Ok (record {
    digest = digest;
    epoid = epoid_of epoid;
    consumer = record { 0 = consumer };
    merchant = record { 0 = merchant };
    product = product;
    price = record { 0 = price };
  })

-- behind the kind of a payment
unfoldable pub paid_of : List ℕ → Result Entry ℕ
paid_of bytes = do
  terms ← terms_of bytes
  cacct ← or_place (u32_at bytes 69)
  macct ← or_place (u32_at bytes 73)
  moment ← or_place (u64_at bytes 77)
  key ← or_place (raw_at 32 bytes 85)
  Ok (Paid terms.digest terms.epoid terms.consumer terms.merchant terms.product terms.price (record { 0 = cacct }) (record { 0 = macct }) moment key)

-- behind the kind of a payment with a fee
unfoldable pub charged_of : List ℕ → Result Entry ℕ
charged_of bytes = do
  terms ← terms_of bytes
  fee ← or_place (u64_at bytes 69)
  cacct ← or_place (u32_at bytes 77)
  macct ← or_place (u32_at bytes 81)
  moment ← or_place (u64_at bytes 85)
  key ← or_place (raw_at 32 bytes 93)
  Ok (Charged terms.digest terms.epoid terms.consumer terms.merchant terms.product terms.price fee (record { 0 = cacct }) (record { 0 = macct }) moment key)

-- behind the kind of a refusal
unfoldable pub refused_of : List ℕ → Result Entry ℕ
refused_of bytes = do
  terms ← terms_of bytes
  code ← or_place (u8_at bytes 69)
  code_is ← allowed (is_reason code) 69
  a ← or_place (u64_at bytes 70)
  b ← or_place (u64_at bytes 78)
  moment ← or_place (u64_at bytes 86)
  Ok (Refused terms.digest terms.epoid terms.consumer terms.merchant terms.product terms.price code a b moment)

-- behind a kind: the fields of that kind, or no entry has it
abbrev pub entry_of_kind : ℕ → List ℕ → Result Entry ℕ
entry_of_kind kind bytes =
    if kind == ENROL_ENTRY then enrol_of bytes
    else if kind == FUND_ENTRY then fund_of bytes
    else if kind == PAID_ENTRY then paid_of bytes
    else if kind == REFUSED_ENTRY then refused_of bytes
    else if kind == CHARGED_ENTRY then charged_of bytes
    else Err 0

-- the entry at the front of the bytes, or the bad place
unfoldable pub entry_of : List ℕ → Result Entry ℕ
entry_of bytes = do
  kind ← or_place (u8_at bytes 0)
  entry_of_kind kind bytes

-- the same, with its bad place counted from this one on
abbrev pub counted_from : ℕ → Result Entry ℕ → Result Entry ℕ
counted_from place (Ok e) = Ok e
counted_from place (Err bad) = Err (place + bad)

-- the entry at the place of the bytes, or the bad place
abbrev pub entry_at : List ℕ → ℕ → Result Entry ℕ
entry_at bytes place = counted_from place (entry_of (drop place bytes))

-- what a reader of an entry gave: the entry that was read, or the bad place
abbrev pub ReadsEntry : Result Entry EntryFault → Result Entry ℕ → Type 0
ReadsEntry (Ok e) read = read ≡ Ok e
ReadsEntry (Err fault) read = read ≡ Err fault.place

-- what it made of the cut: it moved past the entry that was read, and else stays
abbrev pub moved_past_entry : Reading → Result Entry EntryFault → Reading
moved_past_entry cut (Ok e) = moved cut (length (entry_bytes e))
moved_past_entry cut (Err fault) = cut
