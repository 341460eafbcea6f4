-- What bytes spell, read field by field at the place of each: the value, or the place of the first field that fails.
use Rattle.std.specs.Prelude.{ℕ, ◌+◌, List, length, Result, Ok}
use Rattle.nb_units.specs.Fields.{◌>>=◌, u32_at, u64_at, raw_at, bytes_at, done_at, or_place}
use Rattle.nb_units.specs.Epoid.{epoid_of}
use Rattle.nb_units.specs.declared.limits.TheConstants.{MAX_HIDDEN, MAX_MEMO}
use Rattle.nb_epo.specs.declared.order.Order.{Order}
use Rattle.nb_epo.specs.declared.hidden.Hidden.{Hidden}

-- the order that the bytes spell, or the bad place
unfoldable pub order_of : List ℕ → Result Order ℕ
order_of bytes = do
  consumer ← or_place (u32_at bytes 0)
  merchant ← or_place (u32_at bytes 4)
  product ← or_place (u32_at bytes 8)
  price ← or_place (u64_at bytes 12)
  epoid ← or_place (raw_at 16 bytes 20)
  checksum ← or_place (raw_at 32 bytes 36)
  request ← or_place (raw_at 32 bytes 68)
  account ← or_place (raw_at 32 bytes 100)
  hidden ← or_place (bytes_at MAX_HIDDEN bytes 132)
  tag ← or_place (raw_at 32 bytes (136 + length hidden))
  end ← or_place (done_at bytes (136 + length hidden + 32))
  Ok (record {
    consumer = record { 0 = consumer };
    merchant = record { 0 = merchant };
    product = product;
    price = record { 0 = price };
    epoid = epoid_of epoid;
    checksum = checksum;
    request = request;
    account = account;
    hidden = hidden;
    tag = tag;
  })

-- the hidden part that the bytes spell, or the bad place
unfoldable pub hidden_of : List ℕ → Result Hidden ℕ
hidden_of bytes = do
  acct ← or_place (u32_at bytes 0)
  nonce ← or_place (u64_at bytes 4)
  memo ← or_place (bytes_at MAX_MEMO bytes 12)
  end ← or_place (done_at bytes (16 + length memo))
  Ok (record { acct = record { 0 = acct }; nonce = nonce; memo = memo })
