-- What reads do to a link, and to the reader of frames that their pieces are fed to.
use Rattle.std.specs.Prelude.{◌≡◌, ℕ, ◌<◌, ◌≤◌, List, [], ◌∷◌, ◌++◌, Option, None, Some, length, map}
use Rattle.std.specs.List.{flat_map}
use Rattle.std.specs.Io.KnownBytes.{Consumes, IsAtEnd}
use Rattle.nb_port.specs.Faults.{Rose}
use Rattle.nb_link.specs.Link.{LinkSeen}
use Rattle.nb_link.specs.declared.link.Reading.{Reading}
use Rattle.nb_frame.specs.State.{Collected, fed}
use Rattle.nb_frame.specs.declared.stream.TheConstants.{MAX_PIECE}
use Rattle.nb_wire.specs.declared.reading.ReadOn.{ReadOn}
use Rattle.nb_wire.specs.declared.reading.ReadOn.TheVariants as reads

-- the pieces of a stream, joined
abbrev pub joined : List (List ℕ) → List ℕ
joined pieces = flat_map (λ (piece : List ℕ). piece) pieces

-- the reads that gave them: each asked for as many bytes as a piece has at most
abbrev pub readings_of : List (List ℕ) → List Reading
readings_of pieces = map (λ (piece : List ℕ). record { asked = MAX_PIECE; given = length piece }) pieces

-- the reads that a link tells, behind these
abbrev pub with_readings : Option (List Reading) → List (List ℕ) → Option (List Reading)
with_readings None pieces = None
with_readings (Some before) pieces = Some (before ++ readings_of pieces)

-- these pieces were read, and nothing else was done
pub record OnlyReads (old new : LinkSeen) (pieces : List (List ℕ)) : Type 0 where
  pub took : Consumes old.left new.left (joined pieces)
  pub told : new.reads ≡ with_readings old.reads pieces
  pub sent : new.sent ≡ old.sent
  pub write_faults : new.write_faults ≡ old.write_faults
  pub count : old.read_faults ≤ new.read_faults

-- what one read gave: a piece, which was fed, that nothing is left of the link, or that the read failed
abbrev pub ReadsOn : LinkSeen → LinkSeen → Collected → Collected → ReadOn → Type 0
ReadsOn old new held held' reads.Fed = (piece : List ℕ) × (0 < length piece) × (length piece ≤ MAX_PIECE) × OnlyReads old new (piece ∷ []) × (held' ≡ fed held piece)
ReadsOn old new held held' reads.Ended = OnlyReads old new [] × IsAtEnd new.left × (held' ≡ held)
ReadsOn old new held held' reads.Failed = OnlyReads old new [] × Rose old.read_faults new.read_faults × (held' ≡ held)
