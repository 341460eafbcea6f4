-- What bytes spell, read field by field at the place of each: the item, or the place of the first field that fails.
use Rattle.std.specs.Prelude.{ℕ, ◌+◌, ◌==◌, if◌then◌else◌, List, length, Result, Ok, Err}
use Rattle.nb_units.specs.Fields.{◌>>=◌, u8_at, u32_at, u64_at, raw_at, bytes_at, done_at, or_place}
use Rattle.nb_units.specs.Epoid.{epoid_of}
use Rattle.nb_units.specs.declared.limits.TheConstants.{MAX_ORDER}
use Rattle.nb_stall.specs.declared.limits.TheConstants.{QUOTED_ITEM, DELIVERED_ITEM, ENDORSED_ITEM, SETTLED_ITEM, MAX_PART}
use Rattle.nb_stall.specs.declared.purchase.Purchase.{Purchase}
use Rattle.nb_stall.specs.declared.item.Item.{Item}
use Rattle.nb_stall.specs.declared.item.Item.TheVariants.{Quoted, Delivered, Endorsed, Settled}

-- a consumer and the number under which it buys
abbrev pub purchase_named : ℕ → ℕ → Purchase
purchase_named consumer transaction = record { consumer = record { 0 = consumer }; transaction = transaction }

-- the purchase that an item is about
abbrev pub purchase_of : Item → Purchase
purchase_of (Quoted p product price request) = p
purchase_of (Delivered p epoid checksum) = p
purchase_of (Endorsed p order) = p
purchase_of (Settled p part) = p

-- behind the kind of a price that was told
unfoldable pub quoted_of : List ℕ → Result Item ℕ
quoted_of bytes = do
  consumer ← or_place (u32_at bytes 1)
  transaction ← or_place (u64_at bytes 5)
  product ← or_place (u32_at bytes 13)
  price ← or_place (u64_at bytes 17)
  request ← or_place (raw_at 32 bytes 25)
  end ← or_place (done_at bytes 57)
  Ok (Quoted (purchase_named consumer transaction) product (record { 0 = price }) request)

-- behind the kind of goods that were sealed
unfoldable pub delivered_of : List ℕ → Result Item ℕ
delivered_of bytes = do
  consumer ← or_place (u32_at bytes 1)
  transaction ← or_place (u64_at bytes 5)
  epoid ← or_place (raw_at 16 bytes 13)
  checksum ← or_place (raw_at 32 bytes 29)
  end ← or_place (done_at bytes 61)
  Ok (Delivered (purchase_named consumer transaction) (epoid_of epoid) checksum)

-- behind the kind of an order that was endorsed
unfoldable pub endorsed_of : List ℕ → Result Item ℕ
endorsed_of bytes = do
  consumer ← or_place (u32_at bytes 1)
  transaction ← or_place (u64_at bytes 5)
  order ← or_place (bytes_at MAX_ORDER bytes 13)
  end ← or_place (done_at bytes (17 + length order))
  Ok (Endorsed (purchase_named consumer transaction) order)

-- behind the kind of a result
unfoldable pub settled_of : List ℕ → Result Item ℕ
settled_of bytes = do
  consumer ← or_place (u32_at bytes 1)
  transaction ← or_place (u64_at bytes 5)
  part ← or_place (bytes_at MAX_PART bytes 13)
  end ← or_place (done_at bytes (17 + length part))
  Ok (Settled (purchase_named consumer transaction) part)

-- behind a kind: the fields of that kind, or no item has it
abbrev pub item_of_kind : ℕ → List ℕ → Result Item ℕ
item_of_kind kind bytes =
    if kind == QUOTED_ITEM then quoted_of bytes
    else if kind == DELIVERED_ITEM then delivered_of bytes
    else if kind == ENDORSED_ITEM then endorsed_of bytes
    else if kind == SETTLED_ITEM then settled_of bytes
    else Err 0

-- the item that the bytes spell, or the bad place
unfoldable pub item_of : List ℕ → Result Item ℕ
item_of bytes = do
  kind ← or_place (u8_at bytes 0)
  item_of_kind kind bytes
