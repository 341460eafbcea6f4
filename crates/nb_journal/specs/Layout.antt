-- The bytes of a journal: a front of 96 bytes, then item after item, each behind its gate, and then a gate that is not open.
use Rattle.std.specs.Prelude.{◌≡◌, ◌⊎◌, ℕ, ◌+◌, ◌/◌, ◌≤◌, List, [], ◌∷◌, ◌++◌, length, replicate, nat_lt, if◌then◌else◌}
use Rattle.std.specs.List.{flat_map}
use Rattle.nb_units.specs.Charter.{AreVersionAndRate}
use Rattle.nb_units.specs.Fields.{be2, be4, sized}
use Rattle.nb_units.specs.declared.charter.Charter.{Charter}
use Rattle.nb_units.specs.declared.limits.TheConstants.{HEAD, MAX_CAP, FIRST_VERSION, FEE_VERSION}
use Rattle.nb_journal.specs.declared.limits.TheConstants.{AHEAD, AROUND, MAX_AHEAD_ITEM, MAX_ITEM}

-- what a journal of a version begins with: NBJRNL01, NBJRNL02
abbrev pub magic : ℕ → List ℕ
magic version = 0x4E ∷ 0x42 ∷ 0x4A ∷ 0x52 ∷ 0x4E ∷ 0x4C ∷ 0x30 ∷ (0x30 + version) ∷ []

-- what the journals of the two versions begin with
abbrev pub IsMagic : List ℕ → Type 0
IsMagic found = (found ≡ magic FIRST_VERSION) ⊎ (found ≡ magic FEE_VERSION)

-- what stands between the magic and the first gate: cap 4 | head 80 | rate 2 | zeros 2
abbrev pub terms : ℕ → Charter → List ℕ
terms cap charter = be4 cap ++ (charter.head ++ (be2 charter.rate ++ 0 ∷ 0 ∷ []))

-- the front: magic 8, and its terms
abbrev pub front_bytes : ℕ → Charter → List ℕ
front_bytes cap charter = magic charter.version ++ terms cap charter

-- a cap in its range, a head of its length, and a rate that journals of this version may have
pub record AreTerms (cap : ℕ) (charter : Charter) : Type 0 where
  pub some : 1 ≤ cap
  pub most : cap ≤ MAX_CAP
  pub whole : length charter.head ≡ HEAD
  pub ruled : AreVersionAndRate charter.version charter.rate

-- a gate that is open
abbrev pub open_gate : ℕ
open_gate = 0xA5

-- an item is not too long
abbrev pub IsItem : List ℕ → Type 0
IsItem item = length item ≤ MAX_ITEM

-- an item behind its open gate: gate 1 | length 4 | the item
unfoldable pub item_bytes : List ℕ → List ℕ
item_bytes item = open_gate ∷ sized item

-- what is written of an item before its gate is opened: length 4 | the item | the next gate, closed
unfoldable pub body_bytes : List ℕ → List ℕ
body_bytes item = sized item ++ 0 ∷ []

-- how many zeros are written behind an item whose gate stands at the place: some where a multiple of AHEAD is past this gate and not past the next
-- one, and the item is at most MAX_AHEAD_ITEM long
abbrev pub zeros_behind : ℕ → List ℕ → ℕ
zeros_behind gate item =
    if nat_lt (gate / AHEAD) ((gate + (length item + AROUND)) / AHEAD) then (if nat_lt MAX_AHEAD_ITEM (length item) then 0 else AHEAD) else 0

-- what an append writes from the gate on: the item behind its open gate, the next gate, closed, and zeros
abbrev pub appended_bytes : ℕ → List ℕ → List ℕ
appended_bytes gate item = item_bytes item ++ 0 ∷ replicate (zeros_behind gate item) 0

-- the front and the items, up to the gate behind them
abbrev pub up_to_gate : List ℕ → List (List ℕ) → List ℕ
up_to_gate front items = front ++ flat_map item_bytes items
