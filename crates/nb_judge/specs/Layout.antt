-- The bytes of a case: house 32 | consumer 32 | order, at most MAX_ORDER, behind its length 4 | receipt, sealed, at most RECEIPT_BYTES, behind its
-- length 4 | sealed goods, at most MAX_SEALED, behind their length 4.
use Rattle.std.specs.Prelude.{◌≡◌, ℕ, ◌+◌, ◌≤◌, List, ◌++◌, length, Result, Ok, Err}
use Rattle.nb_units.specs.Fields.{◌>>=◌, raw_at, bytes_at, done_at, or_place, sized}
use Rattle.nb_units.specs.declared.limits.TheConstants.{MAX_ORDER}
use Rattle.nb_epo.specs.declared.order.Order.{Order}
use Rattle.nb_epo.specs.Reading.{order_of}
use Rattle.nb_epo.specs.Spelling.{IsOrder, order_bytes}
use Rattle.nb_endorse.specs.declared.receipt.TheConstants.{RECEIPT_BYTES}
use Rattle.nb_goods.specs.declared.limits.TheConstants.{MAX_SEALED}
use Rattle.nb_judge.specs.declared.case.Case.{Case}

-- its spelling
unfoldable pub case_bytes : Case → List ℕ
case_bytes c = c.house ++ c.consumer ++ sized (order_bytes c.order) ++ sized c.receipt ++ sized c.sealed

-- each field of a case is within its limits
pub record IsCase (c : Case) : Type 0 where
  pub house : length c.house ≡ 32
  pub consumer : length c.consumer ≡ 32
  pub order : IsOrder c.order
  pub receipt : length c.receipt ≤ RECEIPT_BYTES
  pub sealed : length c.sealed ≤ MAX_SEALED

-- what is read of a part that begins at a place: a bad place is counted from the front of the whole
abbrev pub from_place : {A : Type 0} → ℕ → Result A ℕ → Result A ℕ
from_place front (Ok x) = Ok x
from_place front (Err place) = Err (front + place)

-- the order of a case, whose bytes begin at 68
abbrev pub order_within : List ℕ → Result Order ℕ
order_within text = from_place 68 (order_of text)

-- the case that the bytes spell, or the place of the first field that fails
unfoldable pub case_of : List ℕ → Result Case ℕ
case_of bytes = do
  house ← or_place (raw_at 32 bytes 0)
  consumer ← or_place (raw_at 32 bytes 32)
  text ← or_place (bytes_at MAX_ORDER bytes 64)
  order ← order_within text
  receipt ← or_place (bytes_at RECEIPT_BYTES bytes (68 + length text))
  sealed ← or_place (bytes_at MAX_SEALED bytes (68 + length text + 4 + length receipt))
  end ← or_place (done_at bytes (68 + length text + 4 + length receipt + 4 + length sealed))
  Ok (record { house = house; consumer = consumer; order = order; receipt = receipt; sealed = sealed })
