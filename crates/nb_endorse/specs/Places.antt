-- The code, the identifier and the key of a receipt in its bytes, each at its place, whether the receipt was read or spelled.
use Rattle.std.specs.Prelude.{◌≡◌, ℕ, ◌==◌, List, ◌++◌, length, take, drop, slice_index, Option, IfSome, Ok}
use Rattle.std.specs.Bool.{then_some}
use Rattle.nb_seal.specs.Seal.{OpensAs, seal_of}
use Rattle.nb_units.specs.Epoid.{epoid_bytes, epoid_of}
use Rattle.nb_units.specs.declared.epoid.Epoid.{Epoid}
use Rattle.nb_endorse.specs.declared.receipt.TheConstants.{PRESENT}
use Rattle.nb_endorse.specs.declared.receipt.Receipt.{Receipt}
use Rattle.nb_endorse.specs.declared.receipt.Signed.{Signed}
use Rattle.nb_endorse.specs.Spelling.{receipt_bytes}
use Rattle.nb_endorse.specs.Reading.{signed_of}

-- the byte at place 0
abbrev pub receipt_code_in : List ℕ → ℕ
receipt_code_in bytes = slice_index bytes 0

-- the identifier that the 16 bytes at place 21 spell
abbrev pub receipt_epoid_in : List ℕ → Epoid
receipt_epoid_in bytes = epoid_of (take 16 (drop 21 bytes))

-- the 32 bytes at place 54, where the byte at place 53 says that there is a key
abbrev pub receipt_key_in : List ℕ → Option (List ℕ)
receipt_key_in bytes = then_some (slice_index bytes 53 == PRESENT) (take 32 (drop 54 bytes))

-- a receipt has the code, the identifier and the key that stand there in the bytes
pub record SaysOf (bytes : List ℕ) (r : Receipt) : Type 0 where
  pub code : r.code ≡ receipt_code_in bytes
  pub epoid : r.epoid ≡ receipt_epoid_in bytes
  pub key : r.key ≡ receipt_key_in bytes

-- what is read as a receipt says what stands there
abbrev pub ReceiptIsRead : Type 0
ReceiptIsRead = (bytes : List ℕ) (s : Signed) → signed_of bytes ≡ Ok s → SaysOf bytes s.receipt

-- in the spelling of a receipt its code stands there, whatever its fields are and whatever follows
abbrev pub CodeIsSpelled : Type 0
CodeIsSpelled = (r : Receipt) (more : List ℕ) → receipt_code_in (receipt_bytes r ++ more) ≡ r.code

-- and so does the identifier that its identifier's bytes spell
abbrev pub EpoidIsSpelled : Type 0
EpoidIsSpelled = (r : Receipt) (more : List ℕ) → receipt_epoid_in (receipt_bytes r ++ more) ≡ epoid_of (epoid_bytes r.epoid)

-- and its key, of 32 bytes where there is one
abbrev pub KeyIsSpelled : Type 0
KeyIsSpelled = (r : Receipt) (more : List ℕ) → IfSome r.key (λ key. length key ≡ 32) → receipt_key_in (receipt_bytes r ++ more) ≡ r.key

-- a receipt that was told has the code of another, the identifier that that one's bytes spell, and its key, where that has 32 bytes
pub record SaysAs (told r : Receipt) : Type 0 where
  pub code : told.code ≡ r.code
  pub epoid : told.epoid ≡ epoid_of (epoid_bytes r.epoid)
  pub key : IfSome r.key (λ key. length key ≡ 32) → told.key ≡ r.key

-- what is read of the spelling of a receipt, whatever follows it, says the same
abbrev pub SpelledIsRead : Type 0
SpelledIsRead = (r : Receipt) (more : List ℕ) (s : Signed) → signed_of (receipt_bytes r ++ more) ≡ Ok s → SaysAs s.receipt r

-- so does what the seal of that opens to
abbrev pub SealedIsRead : Type 0
SealedIsRead = (key label : List ℕ) (r : Receipt) (more : List ℕ) (s : Signed)
    → OpensAs signed_of key label (seal_of key label (receipt_bytes r ++ more)) (Ok s) → SaysAs s.receipt r
