-- What item the bytes spell, read field by field at the place of each: the item, or the place of the first field that fails.
use Rattle.std.specs.Prelude.{ℕ, ◌+◌, ◌==◌, if◌then◌else◌, List, length, drop, Result, Ok, Err, min, ◌^◌, ◌-◌}
use Rattle.nb_units.specs.Fields.{◌>>=◌, u8_at, u32_at, u64_at, raw_at, bytes_at, done_at, or_place}
use Rattle.nb_units.specs.Epoid.{epoid_of}
pub use Rattle.nb_units.specs.Reads.{Reads}
use Rattle.nb_units.specs.declared.limits.TheConstants.{MAX_MEMO, MAX_ORDER}
use Rattle.nb_body.specs.declared.limits.TheConstants.{MAX_REQUEST}
use Rattle.nb_epo.specs.declared.order.Order.{Order}
use Rattle.nb_epo.specs.Reading.{order_of}
use Rattle.nb_endorse.specs.declared.receipt.Signed.{Signed}
use Rattle.nb_endorse.specs.Reading.{signed_of}
use Rattle.nb_goods.specs.declared.limits.TheConstants.{PART_BYTES}
use Rattle.nb_ticket.specs.declared.ticket.TheConstants.{TICKET_BYTES}
use Rattle.nb_wallet.specs.declared.limits.TheConstants.{STARTED, GRANTED, WANTED, ORDERED, ENDED, PART, FORGOTTEN}
use Rattle.nb_wallet.specs.declared.item.Item.{Item}
use Rattle.nb_wallet.specs.declared.item.Item.TheVariants as item

-- transaction 8 | merchant 4 | product 4 | limit 8 | request, at most MAX_REQUEST | memo, at most MAX_MEMO
unfoldable pub started_of : List ℕ → Result Item ℕ
started_of bytes = do
  transaction ← or_place (u64_at bytes 1)
  merchant ← or_place (u32_at bytes 9)
  product ← or_place (u32_at bytes 13)
  limit ← or_place (u64_at bytes 17)
  request ← or_place (bytes_at MAX_REQUEST bytes 25)
  memo ← or_place (bytes_at MAX_MEMO bytes (29 + length request))
  end ← or_place (done_at bytes (29 + length request + 4 + length memo))
  Ok (item.Started (record { transaction = transaction; merchant = record { 0 = merchant }; product = product; limit = record { 0 = limit }; request = request; memo = memo }))

-- transaction 8 | session key 32 | ticket, sealed, at most TICKET_BYTES
unfoldable pub granted_item_of : List ℕ → Result Item ℕ
granted_item_of bytes = do
  transaction ← or_place (u64_at bytes 1)
  session ← or_place (raw_at 32 bytes 9)
  ticket ← or_place (bytes_at TICKET_BYTES bytes 41)
  end ← or_place (done_at bytes (45 + length ticket))
  Ok (item.Granted transaction (record { session = session; ticket = ticket }))

-- transaction 8 | price 8
unfoldable pub wanted_of : List ℕ → Result Item ℕ
wanted_of bytes = do
  transaction ← or_place (u64_at bytes 1)
  price ← or_place (u64_at bytes 9)
  end ← or_place (done_at bytes 17)
  Ok (item.Wanted transaction (record { 0 = price }))

-- what was read of bytes that stand at a place of others, told from the front of these
abbrev pub from_place : {A : Type 0} → ℕ → Result A ℕ → Result A ℕ
from_place place (Ok value) = Ok value
from_place place (Err bad) = Err (min (bad + place) (2 ^ 64 - 1))

-- the order in an item, behind a kind, a number and a length, and the receipt in one, behind a kind and a number
abbrev pub order_within : List ℕ → Result Order ℕ
order_within text = from_place 13 (order_of text)

-- the signed receipt in an item that says how a purchase ended
abbrev pub receipt_within : List ℕ → Result Signed ℕ
receipt_within text = from_place 9 (signed_of text)

-- transaction 8 | order, at most MAX_ORDER | last part, at most PART_BYTES. The order is read where these are there
unfoldable pub ordered_of : List ℕ → Result Item ℕ
ordered_of bytes = do
  transaction ← or_place (u64_at bytes 1)
  text ← or_place (bytes_at MAX_ORDER bytes 9)
  part ← or_place (bytes_at PART_BYTES bytes (13 + length text))
  end ← or_place (done_at bytes (13 + length text + 4 + length part))
  order ← order_within text
  Ok (item.Ordered transaction order part)

-- transaction 8 | receipt and tag 135
unfoldable pub ended_of : List ℕ → Result Item ℕ
ended_of bytes = do
  transaction ← or_place (u64_at bytes 1)
  receipt ← receipt_within (drop 9 bytes)
  Ok (item.Ended transaction receipt)

-- transaction 8 | identifier 16 | total 8 | checksum 32 | place 8 | part, at most PART_BYTES
unfoldable pub part_of : List ℕ → Result Item ℕ
part_of bytes = do
  transaction ← or_place (u64_at bytes 1)
  epoid ← or_place (raw_at 16 bytes 9)
  total ← or_place (u64_at bytes 25)
  checksum ← or_place (raw_at 32 bytes 33)
  place ← or_place (u64_at bytes 65)
  part ← or_place (bytes_at PART_BYTES bytes 73)
  end ← or_place (done_at bytes (77 + length part))
  Ok (item.Part (record { transaction = transaction; epoid = epoid_of epoid; total = total; place = place; checksum = checksum }) part)

-- transaction 8
unfoldable pub forgotten_of : List ℕ → Result Item ℕ
forgotten_of bytes = do
  transaction ← or_place (u64_at bytes 1)
  end ← or_place (done_at bytes 9)
  Ok (item.Forgotten transaction)

-- behind the kind
abbrev pub of_kind : ℕ → List ℕ → Result Item ℕ
of_kind kind bytes =
    if kind == STARTED then started_of bytes
    else if kind == GRANTED then granted_item_of bytes
    else if kind == WANTED then wanted_of bytes
    else if kind == ORDERED then ordered_of bytes
    else if kind == ENDED then ended_of bytes
    else if kind == PART then part_of bytes
    else if kind == FORGOTTEN then forgotten_of bytes
    else Err 0

-- the item that the bytes spell, or the bad place
unfoldable pub item_of : List ℕ → Result Item ℕ
item_of bytes = do
  kind ← or_place (u8_at bytes 0)
  of_kind kind bytes
