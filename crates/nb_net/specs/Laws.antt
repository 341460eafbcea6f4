-- What holds of the table of limits, and of where a link is behind the bytes of a frame.
use Rattle.std.specs.Prelude.{◌≡◌, ℕ, ◌+◌, ◌*◌, ◌<◌, ◌≤◌, Bool, true, List, ◌∷◌, ◌++◌, length}
use Rattle.nb_units.specs.Fields.{be4}
use Rattle.nb_units.specs.Frames.{Frame, IsFrame, frame}
use Rattle.nb_units.specs.declared.frames.TheConstants.{FIRST_MAGIC, SECOND_MAGIC, VERSION, HEADER, MAX_BODY}
use Rattle.nb_net.specs.Waits.{place_after, between}
use Rattle.nb_net.specs.declared.place.Place.{Place}
use Rattle.nb_net.specs.declared.limits.TheConstants.{HOUSE, PARTY, SPAN, MAX_DROPPED}

-- the limits in numbers, in milliseconds: a house waits 10 seconds for the first byte and 60 between frames, a party 60 for both; a frame
-- that has begun is there within 30 seconds and one more for each 16 KiB; a write makes way within 30; the end of a link that is given
-- back is read for 2 seconds and 64 MiB; a dial takes at most 10 seconds
abbrev pub TableIs : Type 0
TableIs =
    (HOUSE ≡ record { first = 10000; between = 60000; frame = 30000; more = 1000; write = 30000; end = 2000; dial = 10000 })
    × (PARTY ≡ record { first = 60000; between = 60000; frame = 30000; more = 1000; write = 30000; end = 2000; dial = 10000 })
    × (SPAN ≡ 16 * 1024)
    × (MAX_DROPPED ≡ 64 * 1048576)

-- a whole frame leads from between two frames to between two frames; `heard` is whether a byte came before it
abbrev pub FrameEnds : Type 0
FrameEnds = (heard : Bool) (f : Frame) → IsFrame f → place_after (between heard) (frame f) ≡ between true

-- a header, and fewer bytes of the body than it says, are so many bytes of that frame
abbrev pub BodyGoesOn : Type 0
BodyGoesOn = (heard : Bool) (kind n : ℕ) (part : List ℕ) → length part < n → n ≤ MAX_BODY
    → place_after (between heard) (FIRST_MAGIC ∷ SECOND_MAGIC ∷ VERSION ∷ kind ∷ be4 n ++ part) ≡ record { heard = true; had = HEADER + length part; len = n }

-- fewer bytes than a header are so many of a frame
abbrev pub HeaderGoesOn : Type 0
HeaderGoesOn = (bytes : List ℕ) (p : Place) → p.had + length bytes < HEADER → (place_after p bytes).had ≡ p.had + length bytes
