-- The faults of a header, with places in the stream that it stands in.
use Rattle.std.specs.Prelude.{ℕ, ◌+◌}
use Rattle.nb_units.specs.Frames as header
use Rattle.nb_units.specs.Frames.{HeaderFault}
use Rattle.nb_frame.specs.declared.fault.FrameFault.{FrameFault}
use Rattle.nb_frame.specs.declared.fault.FrameFault.TheVariants.{BadMagic, BadVersion, BadKind, TooLong}

-- the place of a fault
abbrev pub place_of : FrameFault → ℕ
place_of (BadMagic place found) = place
place_of (BadVersion place found) = place
place_of (BadKind place found) = place
place_of (TooLong place len) = place

-- a fault of the header behind so many bytes of the stream
abbrev pub placed : ℕ → HeaderFault → FrameFault
placed before (header.BadMagic place found) = BadMagic (before + place) found
placed before (header.BadVersion place found) = BadVersion (before + place) found
placed before (header.BadKind place found) = BadKind (before + place) found
placed before (header.TooLong place len) = TooLong (before + place) len

-- the same fault behind so many bytes more
abbrev pub moved : ℕ → FrameFault → FrameFault
moved before (BadMagic place found) = BadMagic (before + place) found
moved before (BadVersion place found) = BadVersion (before + place) found
moved before (BadKind place found) = BadKind (before + place) found
moved before (TooLong place len) = TooLong (before + place) len

-- the fault of a header that stands at the front
abbrev pub header_of : FrameFault → HeaderFault
header_of (BadMagic place found) = header.BadMagic place found
header_of (BadVersion place found) = header.BadVersion place found
header_of (BadKind place found) = header.BadKind place found
header_of (TooLong place len) = header.TooLong place len
