-- What bytes spell, read field by field at the place of each: the value, or the place of the first field that fails.
use Rattle.std.specs.Prelude.{ℕ, ◌+◌, Bool, not, ◌==◌, ◌||◌, ◌&&◌, if◌then◌else◌, List, length, bytes_eq, None, Result, Ok}
use Rattle.std.specs.Bool.{then_some}
use Rattle.nb_units.specs.Fields.{◌>>=◌, u8_at, u32_at, u64_at, raw_at, bytes_at, done_at, or_place, allowed}
use Rattle.nb_units.specs.Epoid.{epoid_of}
use Rattle.nb_units.specs.Reasons.{is_reason}
use Rattle.nb_units.specs.declared.limits.TheConstants.{MAX_MEMO, MAX_ORDER}
use Rattle.nb_endorse.specs.declared.endorsement.Endorsement.{Endorsement}
use Rattle.nb_endorse.specs.declared.receipt.TheConstants.{PAID_CODE, ABSENT, PRESENT, NO_KEY}
use Rattle.nb_endorse.specs.declared.receipt.Receipt.{Receipt}
use Rattle.nb_endorse.specs.declared.receipt.Signed.{Signed}

-- the endorsement that the bytes spell, or the bad place
unfoldable pub endorsement_of : List ℕ → Result Endorsement ℕ
endorsement_of bytes = do
  order ← or_place (bytes_at MAX_ORDER bytes 0)
  macct ← or_place (u32_at bytes (4 + length order))
  memo ← or_place (bytes_at MAX_MEMO bytes (4 + length order + 4))
  key ← or_place (raw_at 32 bytes (4 + length order + 4 + 4 + length memo))
  end ← or_place (done_at bytes (4 + length order + 4 + 4 + length memo + 32))
  Ok (record { order = order; macct = record { 0 = macct }; memo = memo; key = key })

-- a receipt may have this code
abbrev pub is_receipt_code : ℕ → Bool
is_receipt_code code = code == PAID_CODE || is_reason code

-- the byte before the key of a receipt with this code
abbrev pub key_flag : ℕ → ℕ
key_flag code = if code == PAID_CODE then PRESENT else ABSENT

-- a receipt with this code may have this byte before the numbers that it shows
unfoldable pub may_show : ℕ → ℕ → Bool
may_show code has_shown = has_shown == ABSENT || (has_shown == PRESENT && not (code == PAID_CODE))

-- a field behind this byte may hold what it holds: anything where the field is there, and else zeros
unfoldable pub may_hold : ℕ → Bool → Bool
may_hold has is_zero = has == PRESENT || is_zero

-- behind the key of a receipt whose fields were read as far as the key
unfoldable pub behind_key : Receipt → List ℕ → Result Signed ℕ
behind_key front bytes = do
  has_shown ← or_place (u8_at bytes 86)
  showing ← allowed (may_show front.code has_shown) 86
  a ← or_place (u64_at bytes 87)
  a_is ← allowed (may_hold has_shown (a == 0)) 87
  b ← or_place (u64_at bytes 95)
  b_is ← allowed (may_hold has_shown (b == 0)) 95
  tag ← or_place (raw_at 32 bytes 103)
  end ← or_place (done_at bytes 135)
  Ok (record { receipt = record front { shown = then_some (has_shown == PRESENT) (a, b) }; tag = tag })

-- behind the moment of a receipt whose fields were read as far as the moment
unfoldable pub behind_moment : Receipt → List ℕ → Result Signed ℕ
behind_moment front bytes = do
  has_key ← or_place (u8_at bytes 53)
  keyed ← allowed (has_key == key_flag front.code) 53
  key ← or_place (raw_at 32 bytes 54)
  key_is ← allowed (may_hold has_key (bytes_eq key NO_KEY)) 54
  behind_key (record front { key = then_some (has_key == PRESENT) key }) bytes

-- the receipt and its tag that the bytes spell, or the bad place
unfoldable pub signed_of : List ℕ → Result Signed ℕ
signed_of bytes = do
  code ← or_place (u8_at bytes 0)
  coded ← allowed (is_receipt_code code) 0
  consumer ← or_place (u32_at bytes 1)
  merchant ← or_place (u32_at bytes 5)
  product ← or_place (u32_at bytes 9)
  price ← or_place (u64_at bytes 13)
  epoid ← or_place (raw_at 16 bytes 21)
  at ← or_place (u64_at bytes 37)
  moment ← or_place (u64_at bytes 45)
  behind_moment (record {
    code = code;
    consumer = record { 0 = consumer };
    merchant = record { 0 = merchant };
    product = product;
    price = record { 0 = price };
    epoid = epoid_of epoid;
    at = at;
    moment = moment;
    key = None;
    shown = None;
  }) bytes
