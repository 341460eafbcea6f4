-- What a look at the front of some bytes sees.
use Rattle.std.specs.Prelude.{◌≡◌, ℕ, ◌+◌, ◌≤◌, List, length, take, drop, slice_index}
use Rattle.std.specs.Int.{w32, from_be_bytes}
use Rattle.nb_units.specs.Frames.{Front, Empty, Partial, Whole, Bad, front_of, IsWhole}
use Rattle.nb_units.specs.declared.frames.TheConstants.{HEADER}
use Rattle.nb_frame.specs.Faults.{place_of, header_of}
use Rattle.nb_frame.specs.declared.look.Seen.{Seen}
use Rattle.nb_frame.specs.declared.look.Seen.TheVariants as seen

-- nothing stands at the front, or a part of a frame
abbrev pub IsShort : Front → Type 0
IsShort Empty = Unit {0}
IsShort Partial = Unit {0}
IsShort (Whole f rest) = ⊥
IsShort (Bad fault) = ⊥

-- what is seen, by the bytes: a frame of this kind and length of its body, less than one, or a fault of the header
abbrev pub LooksAs : List ℕ → Seen → Type 0
LooksAs bytes (seen.Whole kind len) =
    IsWhole (front_of bytes) × (kind ≡ slice_index bytes 3) × (len ≡ from_be_bytes w32 (take 4 (drop 4 bytes))) × (HEADER + len ≤ length bytes)
LooksAs bytes seen.Short = IsShort (front_of bytes)
LooksAs bytes (seen.Bad fault) = (front_of bytes ≡ Bad (header_of fault)) × (place_of fault ≤ 4)
