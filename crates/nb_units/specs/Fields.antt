-- Fields in a row. A field is read at a place of the bytes: it gives its value, or the first reason why
-- no such field stands there. Numbers are big-endian. A text has its length before it, in four bytes.
use Rattle.std.specs.Prelude.{ℕ, ◌+◌, List, ◌++◌, length, take, drop, slice_index, Bool, true, false, Result, Ok, Err, nat_lt, if◌then◌else◌}
use Rattle.std.specs.Int.{w16, w32, w64, to_be_bytes, from_be_bytes}
use Rattle.std.specs.Borrow.{Bor}
use Rattle.nb_units.specs.declared.cut.CutFault.{CutFault}
use Rattle.nb_units.specs.declared.cut.CutFault.TheVariants.{Short, Long, Extra}
use Rattle.nb_units.specs.Reading.{Reading}

-- ---- spelling

-- a number in two bytes
abbrev pub be2 : ℕ → List ℕ
be2 n = to_be_bytes w16 n

-- a number in four bytes
abbrev pub be4 : ℕ → List ℕ
be4 n = to_be_bytes w32 n

-- a number in eight bytes
abbrev pub be8 : ℕ → List ℕ
be8 n = to_be_bytes w64 n

-- a text of any length: its length, then its bytes
abbrev pub sized : List ℕ → List ℕ
sized text = be4 (length text) ++ text

-- ---- reading

-- n bytes stand at the place, or it is short there
unfoldable pub raw_at : ℕ → List ℕ → ℕ → Result (List ℕ) CutFault
raw_at n bytes place = if nat_lt (length (drop place bytes)) n then Err (Short place) else Ok (take n (drop place bytes))

-- a byte stands at the place
unfoldable pub u8_at : List ℕ → ℕ → Result ℕ CutFault
u8_at bytes place = if nat_lt (length (drop place bytes)) 1 then Err (Short place) else Ok (slice_index (drop place bytes) 0)

-- a number of four bytes
unfoldable pub u32_at : List ℕ → ℕ → Result ℕ CutFault
u32_at bytes place = if nat_lt (length (drop place bytes)) 4 then Err (Short place) else Ok (from_be_bytes w32 (take 4 (drop place bytes)))

-- a number of eight bytes
unfoldable pub u64_at : List ℕ → ℕ → Result ℕ CutFault
u64_at bytes place = if nat_lt (length (drop place bytes)) 8 then Err (Short place) else Ok (from_be_bytes w64 (take 8 (drop place bytes)))

-- the text of n bytes at the front of what stands behind its length: too long is tested before too short
abbrev pub text_of : ℕ → ℕ → List ℕ → ℕ → Result (List ℕ) CutFault
text_of max n behind place =
    if nat_lt max n then Err (Long place n max)
    else if nat_lt (length behind) n then Err (Short place)
    else Ok (take n behind)

-- the text behind a length, where the length was read
abbrev pub behind_length : ℕ → List ℕ → ℕ → Result ℕ CutFault → Result (List ℕ) CutFault
behind_length max behind place (Ok n) = text_of max n behind place
behind_length max behind place (Err fault) = Err fault

-- a text of at most max bytes; each fault is at the place of its length
unfoldable pub bytes_at : ℕ → List ℕ → ℕ → Result (List ℕ) CutFault
bytes_at max bytes place = behind_length max (drop 4 (drop place bytes)) place (u32_at bytes place)

-- no bytes are left over
unfoldable pub done_at : List ℕ → ℕ → Result (Unit {0}) CutFault
done_at bytes place = if nat_lt place (length bytes) then Err (Extra place) else Ok tt

-- the place at which a reading failed
abbrev pub place_of : CutFault → ℕ
place_of (Short place) = place
place_of (Long place len max) = place
place_of (Extra place) = place

-- a reading that tells the bad place alone
abbrev pub or_place : {A : Type 0} → Result A CutFault → Result A ℕ
or_place (Ok x) = Ok x
or_place (Err fault) = Err (place_of fault)

-- a value is allowed in the field at the place, or the place is bad
abbrev pub allowed : Bool → ℕ → Result (Unit {0}) ℕ
allowed true place = Ok tt
allowed false place = Err place

-- one step behind another: the first that fails is the answer
infixl 10 ◌>>=◌
abbrev pub ◌>>=◌ : {A B E : Type 0} → Result A E → (A → Result B E) → Result B E
(Ok x) >>= next = next x
(Err fault) >>= next = Err fault

-- ---- what a cut does

-- it moves past n bytes
abbrev pub moved : Reading → ℕ → Reading
moved cut n = record { bytes = cut.bytes; place = cut.place + n }

-- it moves past n bytes where the field was read, and else stays
abbrev pub moved_by : {A : Type 0} → Reading → ℕ → Result A CutFault → Reading
moved_by cut n (Ok x) = moved cut n
moved_by cut n (Err fault) = cut

-- the same for a text, with the four bytes of its length
abbrev pub moved_past : Reading → Result (Bor (List ℕ)) CutFault → Reading
moved_past cut (Ok text) = moved cut (4 + length text.now)
moved_past cut (Err fault) = cut

-- a text that was read, without where it lies in memory
abbrev pub seen : Result (Bor (List ℕ)) CutFault → Result (List ℕ) CutFault
seen (Ok text) = Ok text.now
seen (Err fault) = Err fault
