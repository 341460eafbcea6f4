-- The receipt of a status in its bytes, at its place, whether the status was read or spelled.
use Rattle.std.specs.Prelude.{◌≡◌, ◌≢◌, ℕ, List, drop, slice_index, Option, Some, None, Ok, ⊤}
use Rattle.nb_seal.specs.Seal.{OpensAs, seal_of}
use Rattle.nb_endorse.specs.declared.receipt.TheConstants.{ABSENT, PRESENT}
use Rattle.nb_endorse.specs.declared.receipt.Signed.{Signed}
use Rattle.nb_endorse.specs.Spelling.{signed_bytes}
use Rattle.nb_endorse.specs.Reading.{signed_of}
use Rattle.nb_endorse.specs.Places.{SaysAs}
use Rattle.nb_msgs.specs.declared.status.StatusText.{StatusText}
use Rattle.nb_msgs.specs.StatusText.{text_bytes, text_of}

-- the byte at place 24 says that there is a receipt, and the bytes from place 25 on are read as it; or it does not say so
abbrev pub ReadsReceipt : List ℕ → Option Signed → Type 0
ReadsReceipt bytes None = slice_index bytes 24 ≢ PRESENT
ReadsReceipt bytes (Some s) = (slice_index bytes 24 ≡ PRESENT) × (signed_of (drop 25 bytes) ≡ Ok s)

-- what is read as a status has the receipt that stands there
abbrev pub StatusReceiptIsRead : Type 0
StatusReceiptIsRead = (bytes : List ℕ) (t : StatusText) → text_of bytes ≡ Ok t → ReadsReceipt bytes t.receipt

-- that byte says that there is a receipt, and its spelling stands from place 25 on; or it says that there is none
abbrev pub SpellsReceipt : List ℕ → Option Signed → Type 0
SpellsReceipt bytes None = slice_index bytes 24 ≡ ABSENT
SpellsReceipt bytes (Some s) = (slice_index bytes 24 ≡ PRESENT) × (drop 25 bytes ≡ signed_bytes s)

-- in the spelling of a status its receipt stands there, whatever its other fields are
abbrev pub StatusReceiptIsSpelled : Type 0
StatusReceiptIsSpelled = (t : StatusText) → SpellsReceipt (text_bytes t) t.receipt

-- a receipt that was told says what another says, or there is neither
abbrev pub TellsAs : Option Signed → Option Signed → Type 0
TellsAs None None = ⊤
TellsAs (Some told) (Some s) = SaysAs told.receipt s.receipt
TellsAs told other = ⊥

-- what is read of the spelling of a status tells of the receipt in it
abbrev pub StatusSpelledIsRead : Type 0
StatusSpelledIsRead = (t told : StatusText) → text_of (text_bytes t) ≡ Ok told → TellsAs told.receipt t.receipt

-- so does what the seal of that opens to
abbrev pub StatusSealedIsRead : Type 0
StatusSealedIsRead = (key label : List ℕ) (t told : StatusText) → OpensAs text_of key label (seal_of key label (text_bytes t)) (Ok told)
    → TellsAs told.receipt t.receipt
