-- What bytes spell, read field by field at the place of each: the value, or the place of the first field that fails.
use Rattle.std.specs.Prelude.{ℕ, ◌+◌, List, length, Result, Ok}
use Rattle.nb_units.specs.Fields.{◌>>=◌, u8_at, u64_at, raw_at, done_at, or_place}
use Rattle.nb_entry.specs.Reading.{entry_at}
use Rattle.nb_entry.specs.Spelling.{entry_bytes}
use Rattle.nb_standby.specs.declared.shipped.Shipped.{Shipped}
use Rattle.nb_standby.specs.declared.acknowledged.Acknowledged.{Acknowledged}

-- the record that the bytes spell, or the bad place
unfoldable pub shipped_of : List ℕ → Result Shipped ℕ
shipped_of bytes = do
  place ← or_place (u64_at bytes 0)
  entry ← entry_at bytes 8
  tag ← or_place (raw_at 32 bytes (8 + length (entry_bytes entry)))
  end ← or_place (done_at bytes (8 + length (entry_bytes entry) + 32))
  Ok (record { place = place; entry = entry; tag = tag })

-- the acknowledgement that the bytes spell, or the bad place
unfoldable pub acknowledged_of : List ℕ → Result Acknowledged ℕ
acknowledged_of bytes = do
  code ← or_place (u8_at bytes 0)
  entries ← or_place (u64_at bytes 1)
  tag ← or_place (raw_at 32 bytes 9)
  end ← or_place (done_at bytes 41)
  Ok (record { code = code; entries = entries; tag = tag })
