-- What holds of every wire.
use Rattle.std.specs.Prelude.{◌≡◌, ℕ, ◌≤◌, List, [], ◌++◌, Some, length}
use Rattle.std.specs.List.{flat_map, AllByRecursion}
use Rattle.nb_link.specs.Link.{LinkSeen}
use Rattle.nb_units.specs.Frames.{Frame, frame, IsFrame}
use Rattle.nb_frame.specs.State.{waiting, unfed}
use Rattle.nb_frame.specs.Cuts.{ReadsAs}
use Rattle.nb_frame.specs.declared.fault.FrameFault.{FrameFault}
use Rattle.nb_frame.specs.declared.stream.Next.TheVariants as next
use Rattle.nb_wire.specs.Received.{Wire, Received, EndsAs}
use Rattle.nb_wire.specs.Sent.{WroteOn}
use Rattle.nb_wire.specs.declared.receiving.LinkEnd.TheVariants.{Ended, BadFrame}
use Rattle.nb_wire.specs.declared.sending.Sent.{Sent}

-- where nothing was done no frame was received; frames that were received, and then some more, are received
abbrev pub ReceivedInParts : Type 0
ReceivedInParts = ((here : Wire) → Received here here [])
    × ((old mid new : Wire) (frames more : List Frame) → Received old mid frames → Received mid new more → Received old new (frames ++ more))

-- where nothing was done nothing was sent; what was sent, and then some more behind it, was sent
abbrev pub SentInParts : Type 0
SentInParts = ((so : Sent) (here : LinkSeen) → WroteOn so so here here [])
    × ((first then last : Sent) (old mid new : LinkSeen) (bytes more : List ℕ) → old.write_faults ≤ mid.write_faults → mid.write_faults ≤ new.write_faults
    → WroteOn first then old mid bytes → WroteOn then last mid new more → WroteOn first last old new (bytes ++ more))

-- Of a link that tells its bytes, and goes on to tell what is left, received from its first byte on: its bytes are these frames, what waits,
-- and what is left of it
abbrev pub ReceivedFirst : Type 0
ReceivedFirst = (bytes left : List ℕ) (old last : Wire) (frames : List Frame)
    → old.link.left ≡ Some bytes → last.link.left ≡ Some left → old.held ≡ unfed
    → Received old last frames
    → (bytes ≡ flat_map frame frames ++ (waiting last.held ++ left)) × AllByRecursion IsFrame frames × (last.held.taken ≡ length (flat_map frame frames))

-- The same up to the end of the link: the frames are all whole ones of its bytes, and what waits is their rest, so many bytes
abbrev pub ReceivedAll : Type 0
ReceivedAll = (bytes left : List ℕ) (old new last : Wire) (frames : List Frame) (rest : ℕ)
    → old.link.left ≡ Some bytes → last.link.left ≡ Some left → old.held ≡ unfed
    → Received old last frames → EndsAs new last (Ended rest)
    → ReadsAs bytes frames (waiting last.held) next.More × (rest ≡ length (waiting last.held))

-- the same up to a bad frame: what waits, and what is left of the link, is the rest, and the fault is that of its header
abbrev pub ReceivedUpToAFault : Type 0
ReceivedUpToAFault = (bytes left : List ℕ) (old new last : Wire) (frames : List Frame) (fault : FrameFault)
    → old.link.left ≡ Some bytes → last.link.left ≡ Some left → old.held ≡ unfed
    → Received old last frames → EndsAs new last (BadFrame fault)
    → ReadsAs bytes frames (waiting last.held ++ left) (next.Bad fault)
