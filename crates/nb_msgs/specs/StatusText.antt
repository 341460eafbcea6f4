-- A status before it is sealed: its one spelling, and its reading, field by field at the place of each.
use Rattle.std.specs.Prelude.{ℕ, ◌+◌, ◌<◌, ◌^◌, ◌==◌, ◌||◌, if◌then◌else◌, List, [], ◌∷◌, ◌++◌, drop, Option, Some, None, IfSome, Result, Ok, Err}
use Rattle.nb_units.specs.Fields.{◌>>=◌, be8, u8_at, u64_at, raw_at, done_at, or_place, allowed}
use Rattle.nb_units.specs.Epoid.{IsEpoid, epoid_bytes, epoid_of}
use Rattle.nb_endorse.specs.declared.receipt.TheConstants.{ABSENT, PRESENT}
use Rattle.nb_endorse.specs.declared.receipt.Signed.{Signed}
use Rattle.nb_endorse.specs.Spelling.{IsSigned, signed_bytes}
use Rattle.nb_endorse.specs.Reading.{signed_of}
use Rattle.nb_msgs.specs.declared.status.StatusText.{StatusText}

-- a receipt behind the byte that says whether there is one: has 1, 0 or 1 | receipt and tag 135, where there is one
abbrev pub told_bytes : Option Signed → List ℕ
told_bytes None = ABSENT ∷ []
told_bytes (Some s) = PRESENT ∷ signed_bytes s

-- a status: place 8 | identifier 16 | the receipt, where there is one
abbrev pub text_bytes : StatusText → List ℕ
text_bytes t = be8 t.place ++ epoid_bytes t.epoid ++ told_bytes t.receipt

-- each field of a status is within its limits
pub record IsStatusText (t : StatusText) : Type 0 where
  pub place : t.place < 2 ^ 64
  pub epoid : IsEpoid t.epoid
  pub receipt : IfSome t.receipt IsSigned

-- what was read of the bytes from a place on, told from the front of all bytes
abbrev pub told_from : ℕ → Result Signed ℕ → Result (Option Signed) ℕ
told_from place (Ok s) = Ok (Some s)
told_from place (Err bad) = Err (place + bad)

-- behind the byte that says whether there is a receipt: a receipt, or nothing
unfoldable pub told_of : ℕ → List ℕ → Result (Option Signed) ℕ
told_of has bytes = if has == PRESENT then told_from 25 (signed_of (drop 25 bytes)) else (or_place (done_at bytes 25) >>= λ end. Ok None)

-- the status that the bytes spell, or the bad place
unfoldable pub text_of : List ℕ → Result StatusText ℕ
text_of bytes = do
  place ← or_place (u64_at bytes 0)
  epoid ← or_place (raw_at 16 bytes 8)
  has ← or_place (u8_at bytes 24)
  known ← allowed (has == ABSENT || has == PRESENT) 24
  receipt ← told_of has bytes
  Ok (record { place = place; epoid = epoid_of epoid; receipt = receipt })
