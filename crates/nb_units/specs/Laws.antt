-- A field is read exactly where its spelling stands, each fault has its own ground, and an identifier is read as
-- what was written.
use Rattle.std.specs.Prelude.{◌≡◌, ◌↔◌, ◌⊎◌, ℕ, ◌+◌, ◌-◌, ◌<◌, ◌≤◌, ◌^◌, List, [], ◌∷◌, length, take, drop, Result, Ok, Err}
use Rattle.nb_units.specs.declared.cut.CutFault.{CutFault}
use Rattle.nb_units.specs.declared.cut.CutFault.TheVariants.{Short, Long, Extra}
use Rattle.nb_units.specs.declared.epoid.Epoid.{Epoid}
use Rattle.nb_units.specs.Fields.{be4, be8, sized, raw_at, u8_at, u32_at, u64_at, bytes_at, done_at}
use Rattle.nb_units.specs.Frames.{AreBytes}
use Rattle.nb_units.specs.Epoid.{IsEpoid, epoid_bytes, epoid_of}
use Rattle.nb_units.specs.declared.limits.TheConstants.{MAX_MEMO, MAX_HIDDEN, MAX_ORDER, FIRST_VERSION, FEE_VERSION, MAX_RATE}
use Rattle.nb_units.specs.declared.small.TheConstants.{MAX_SMALL}
use Rattle.nb_units.specs.declared.buffer.TheConstants.{MAX_BUFFER}
use Rattle.nb_units.specs.declared.reason.TheConstants.{FIRST_REASON, LAST_REASON}

-- this spelling stands at the place of the bytes
abbrev pub StandsAt : List ℕ → List ℕ → ℕ → Type 0
StandsAt field bytes place = take (length field) (drop place bytes) ≡ field

-- n bytes are read exactly where they stand
abbrev pub RawStands : Type 0
RawStands = (bytes field : List ℕ) (place n : ℕ)
    → (raw_at n bytes place ≡ Ok field) ↔ ((length field ≡ n) × StandsAt field bytes place)

-- a byte is read exactly where it stands
abbrev pub ByteStands : Type 0
ByteStands = (bytes : List ℕ) (place v : ℕ) → (u8_at bytes place ≡ Ok v) ↔ StandsAt (v ∷ []) bytes place

-- a number of four bytes is read exactly where its big-endian bytes stand
abbrev pub U32Stands : Type 0
U32Stands = (bytes : List ℕ) (place v : ℕ) → AreBytes bytes → v < 2 ^ 32
    → (u32_at bytes place ≡ Ok v) ↔ StandsAt (be4 v) bytes place

-- a number of eight bytes is read exactly where its big-endian bytes stand
abbrev pub U64Stands : Type 0
U64Stands = (bytes : List ℕ) (place v : ℕ) → AreBytes bytes → v < 2 ^ 64
    → (u64_at bytes place ≡ Ok v) ↔ StandsAt (be8 v) bytes place

-- a text is read exactly where it is not longer than its limit and stands behind its length
abbrev pub TextStands : Type 0
TextStands = (bytes text : List ℕ) (place max : ℕ) → AreBytes bytes → max < 2 ^ 32
    → (bytes_at max bytes place ≡ Ok text) ↔ ((length text ≤ max) × StandsAt (sized text) bytes place)

-- how many bytes are left from the place on
abbrev pub left_at : List ℕ → ℕ → ℕ
left_at bytes place = length bytes - place

-- what was read of a field of so many bytes is a fault exactly where fewer are left, and that fault is `Short`
abbrev pub IsShortBelow : {A : Type 0} → Result A CutFault → ℕ → List ℕ → ℕ → Type 0
IsShortBelow field width bytes place = (fault : CutFault) → (field ≡ Err fault) ↔ ((fault ≡ Short place) × (left_at bytes place < width))

-- a number, or bytes of a fixed number, are short exactly where fewer bytes are left
abbrev pub FieldShort : Type 0
FieldShort = (bytes : List ℕ) (place n : ℕ)
    → IsShortBelow (raw_at n bytes place) n bytes place
    × IsShortBelow (u8_at bytes place) 1 bytes place
    × IsShortBelow (u32_at bytes place) 4 bytes place
    × IsShortBelow (u64_at bytes place) 8 bytes place

-- a text is long exactly where a length that is more than its limit stands, however many bytes are left behind it
abbrev pub TextLong : Type 0
TextLong = (bytes : List ℕ) (place max n p m : ℕ) → AreBytes bytes → n < 2 ^ 32
    → (bytes_at max bytes place ≡ Err (Long p n m)) ↔ ((p ≡ place) × (m ≡ max) × (max < n) × StandsAt (be4 n) bytes place)

-- a text is short exactly where fewer bytes are left than its length has, or than its length says within its limit
abbrev pub TextShort : Type 0
TextShort = (bytes : List ℕ) (place max p : ℕ) → AreBytes bytes
    → (bytes_at max bytes place ≡ Err (Short p))
    ↔ ((p ≡ place) × ((left_at bytes place < 4) ⊎ ((n : ℕ) × (n < 2 ^ 32) × StandsAt (be4 n) bytes place × (n ≤ max) × (left_at bytes place < 4 + n))))

-- bytes are left over exactly where the place is before their end
abbrev pub DoneExtra : Type 0
DoneExtra = (bytes : List ℕ) (place : ℕ) (fault : CutFault)
    → (done_at bytes place ≡ Err fault) ↔ ((fault ≡ Extra place) × (place < length bytes))

-- what was written of an identifier is read as that identifier
abbrev pub EpoidReadsBack : Type 0
EpoidReadsBack = (e : Epoid) → IsEpoid e → epoid_of (epoid_bytes e) ≡ e

-- what was read of 16 bytes is written as those bytes
abbrev pub EpoidSpellsBack : Type 0
EpoidSpellsBack = (bytes : List ℕ) → length bytes ≡ 16 → AreBytes bytes → epoid_bytes (epoid_of bytes) ≡ bytes

-- the most bytes of a memo, of a hidden part, sealed, of an order, of a small list and of a buffer
abbrev pub FieldLimitsAre : Type 0
FieldLimitsAre = (MAX_MEMO ≡ 64) × (MAX_HIDDEN ≡ 112) × (MAX_ORDER ≡ 280) × (MAX_SMALL ≡ 280) × (MAX_BUFFER ≡ 604)

-- the least and the greatest code of a reason
abbrev pub ReasonsAre : Type 0
ReasonsAre = (FIRST_REASON ≡ 31) × (LAST_REASON ≡ 37)

-- the two versions of a journal, and the highest rate
abbrev pub VersionsAre : Type 0
VersionsAre = (FIRST_VERSION ≡ 1) × (FEE_VERSION ≡ 2) × (MAX_RATE ≡ 1000)
