-- What holds of every seal and of every keystream.
use Rattle.std.specs.Prelude.{◌≡◌, ◌↔◌, ℕ, ◌+◌, ◌<◌, ◌^◌, List, ◌++◌, length, bit_xor, slice_index, Some, None}
use Rattle.nb_seal.specs.declared.limits.TheConstants.{BLOCK_BYTES, CODE_BYTES, MAX_KEYSTREAM, MAX_TEXT}
use Rattle.nb_seal.specs.Keystream.{stream_byte, xored}
use Rattle.nb_seal.specs.Seal.{Opens, IsNoSeal, seal_of, text_in}

-- bytes open to at most one text under a key and a label
abbrev pub OpensToOneText : Type 0
OpensToOneText = (key label bytes first second : List ℕ) → Opens key label bytes first
    → Opens key label bytes second → first ≡ second

-- what was sealed opens to the text that was sealed, and to no other
abbrev pub OpensToWhatWasSealed : Type 0
OpensToWhatWasSealed = (key label plain text : List ℕ)
    → Opens key label (seal_of key label plain) text ↔ (text ≡ plain)

-- the text in bytes is the one that they open to
abbrev pub TextInIsOpened : Type 0
TextInIsOpened = (key label bytes plain : List ℕ) → (text_in key label bytes ≡ Some plain) ↔ Opens key label bytes plain

-- there is no text in bytes exactly where they are the seal of none
abbrev pub NoTextInNoSeal : Type 0
NoTextInNoSeal = (key label bytes : List ℕ) → (text_in key label bytes ≡ None) ↔ IsNoSeal key label bytes

-- a seal has 32 bytes more than its text
abbrev pub SealIs32BytesLonger : Type 0
SealIs32BytesLonger = (key label plain : List ℕ) → length (seal_of key label plain) ≡ 32 + length plain

-- byte i of what was xored from a place on is byte i of the bytes, xored with the keystream's at i behind the place
abbrev pub XoredByteByByte : Type 0
XoredByteByByte = (key bytes : List ℕ) (place i : ℕ) → i < length bytes
    → slice_index (xored key place bytes) i ≡ bit_xor (slice_index bytes i) (stream_byte key (place + i))

-- what was xored is as long as the bytes
abbrev pub XoredIsAsLong : Type 0
XoredIsAsLong = (key bytes : List ℕ) (place : ℕ) → length (xored key place bytes) ≡ length bytes

-- two pieces xored together are the first xored, and the second xored from where the first ends
abbrev pub XoredInPieces : Type 0
XoredInPieces = (key front rest : List ℕ) (place : ℕ)
    → xored key place (front ++ rest) ≡ xored key place front ++ xored key (place + length front) rest

-- the limits in numbers
abbrev pub SealLimitsAre : Type 0
SealLimitsAre = (CODE_BYTES ≡ 32) × (BLOCK_BYTES ≡ 64) × (MAX_TEXT ≡ 2 ^ 39) × (MAX_KEYSTREAM ≡ 2 ^ 40)
