-- The frames of a drill one behind the other, as a source gives them, the moments of its clock, and a sink that keeps nothing.
use Rattle.std.specs.Prelude.{◌≡◌, ℕ, zero, suc, ◌+◌, ◌*◌, ◌-◌, ◌≤◌, List, [], ◌∷◌, Option, None, Some, replicate, nat_lt, if◌then◌else◌}
use Rattle.std.specs.List.{flat_map}
use Rattle.nb_port.specs.Faults.{last_count}
use Rattle.nb_units.specs.Frames.{Frame, frame, IsFrame}
use Rattle.nb_play.specs.declared.frames.TheConstants.{CONSUMERS, MOMENT, PARTIES}
use Rattle.nb_play.specs.Drill.{frame_at, frame_bytes}

-- so many frames, from a place on
unfoldable pub frames_from : ℕ → ℕ → ℕ → List Frame
frames_from seed place zero = []
frames_from seed place (suc n) = frame_at seed place ∷ frames_from seed (suc place) n

-- their bytes
abbrev pub bytes_from : ℕ → ℕ → ℕ → List ℕ
bytes_from seed place n = flat_map frame (frames_from seed place n)

-- how many frames a drill with so many orders has: one for each party, one for each consumer's money, and two for each order
abbrev pub count_of : ℕ → ℕ
count_of orders = 2 * orders + (PARTIES + CONSUMERS)

-- the cap of the house: an entry for each party, one for each consumer's money, and one for each order
abbrev pub cap_of : ℕ → ℕ
cap_of orders = orders + (PARTIES + CONSUMERS)

-- all of them
abbrev pub frames_of : ℕ → ℕ → List Frame
frames_of seed orders = frames_from seed 0 (count_of orders)

-- a source of them: the bytes that are left, and its count of faults
pub record Feed : Type 0 where
  pub left : List ℕ
  pub faults : ℕ

-- the source at its start
abbrev pub whole : ℕ → ℕ → Feed
whole seed orders = record { left = bytes_from seed 0 (count_of orders); faults = 0 }

-- what a clock that was asked so often told: the one moment each time, until its count of calls stays
abbrev pub told_by : ℕ → Option (List ℕ)
told_by asked = if nat_lt asked last_count then Some (replicate asked MOMENT) else None

-- each frame of a drill is one of the protocol
abbrev pub AreFrames : Type 0
AreFrames = (seed place : ℕ) → IsFrame (frame_at seed place)

-- ---- for the contracts of private functions alone

-- a frame is that of the place before it
abbrev pub IsAgain : ℕ → ℕ → Type 0
IsAgain seed place = (1 ≤ place) × (frame_bytes seed place ≡ frame_bytes seed (place - 1))
