-- What comes of fetching the next frame from a source, through a reader of frames.
use Rattle.std.specs.Prelude.{◌≡◌, ◌≢◌, ◌⊎◌, ℕ, ◌+◌, ◌<◌, ◌≤◌, List, [], ◌∷◌, ◌++◌, Option, ⊤, length}
use Rattle.std.specs.List.{flat_map}
use Rattle.std.specs.Io.KnownBytes.{Consumes, IsAtEnd}
use Rattle.nb_port.specs.Faults.{Rose}
use Rattle.nb_units.specs.Frames.{Frame, frame, IsFrame, Partial, front_of}
use Rattle.nb_units.specs.declared.frames.TheConstants.{HEADER, MAX_BODY}
use Rattle.nb_frame.specs.State.{Collected, waiting}
use Rattle.nb_frame.specs.declared.stream.TheConstants.{MAX_PIECE}
use Rattle.nb_frame.specs.Looks.{IsShort}
use Rattle.nb_frame.specs.Collected.{frame_at}
use Rattle.nb_frame.specs.Cuts.{EndsIn}
use Rattle.nb_frame.specs.declared.stream.Next.TheVariants as next
use Rattle.nb_batch.specs.declared.batch.BatchEnd.{BatchEnd}
use Rattle.nb_batch.specs.declared.batch.BatchEnd.TheVariants.{Clean, Cut, BadFrame, ReadFault, WriteFault, NoMemory, FrameLimit}
use Rattle.nb_batch.specs.declared.fetch.Fetched.{Fetched}
use Rattle.nb_batch.specs.declared.fetch.Fetched.TheVariants as fetched

-- bytes were read: what waited and these are the frames that were given out, and what waits now
pub record Reads (left left' : Option (List ℕ)) (old new : Collected) (frames : List Frame) : Type 0 where
  pub bytes : List ℕ
  pub took : Consumes left left' bytes
  pub is : waiting old ++ bytes ≡ flat_map frame frames ++ waiting new
  pub taken : new.taken ≡ old.taken + length (flat_map frame frames)

-- what waits is what waited, or a part of a frame and the newest piece behind it
pub record HasLast (waits : List ℕ) : Type 0 where
  pub before : List ℕ
  pub piece : List ℕ
  pub is : waits ≡ before ++ piece
  pub short : IsShort (front_of before)
  pub most : length piece ≤ MAX_PIECE

-- what waits is so, or as it was
abbrev pub IsNewest : Collected → Collected → Type 0
IsNewest old new = (waiting new ≡ waiting old) ⊎ HasLast (waiting new)

-- how many bytes wait behind the last frame that was given out where a batch ended so: less than a piece, or, where they are no frame,
-- less than a header and a piece. Elsewhere they are less than a frame
abbrev pub AheadAs : BatchEnd → ℕ → Type 0
AheadAs (BadFrame fault) waits = waits < MAX_PIECE + HEADER
AheadAs WriteFault waits = waits < MAX_PIECE
AheadAs FrameLimit waits = waits < MAX_PIECE
AheadAs other waits = waits < HEADER + MAX_BODY

-- how the input stands where a batch ended so, by the number of the bytes of the frames before, what follows them of the bytes that
-- were read, and what is left of the source
abbrev pub EndsAs : BatchEnd → ℕ → List ℕ → Option (List ℕ) → Type 0
EndsAs Clean before rest left = (rest ≡ []) × IsAtEnd left
EndsAs (Cut place) before rest left = (front_of rest ≡ Partial) × IsAtEnd left × (place ≡ before + length rest)
EndsAs (BadFrame fault) before rest left = EndsIn before rest (next.Bad fault)
EndsAs ReadFault before rest left = IsShort (front_of rest)
EndsAs NoMemory before rest left = rest ≡ []
EndsAs WriteFault before rest left = ⊤
EndsAs FrameLimit before rest left = ⊤

-- the end of reading
abbrev pub IsReadEnd : BatchEnd → Type 0
IsReadEnd Clean = ⊤
IsReadEnd (Cut place) = ⊤
IsReadEnd (BadFrame fault) = ⊤
IsReadEnd ReadFault = ⊤
IsReadEnd NoMemory = ⊥
IsReadEnd WriteFault = ⊥
IsReadEnd FrameLimit = ⊥

-- what nothing left of the source leaves
abbrev pub AtEnd : Collected → BatchEnd → Type 0
AtEnd held Clean = length (waiting held) ≡ 0
AtEnd held (Cut place) = (length (waiting held) ≢ 0) × (place ≡ held.taken + length (waiting held))
AtEnd held (BadFrame fault) = ⊥
AtEnd held ReadFault = ⊥
AtEnd held NoMemory = ⊥
AtEnd held WriteFault = ⊥
AtEnd held FrameLimit = ⊥

-- what was fetched: the counts of faults before and after, what is left before and after, the reader before and after
abbrev pub FetchIs : ℕ → ℕ → Option (List ℕ) → Option (List ℕ) → Collected → Collected → Fetched → Type 0
FetchIs faults faults' left left' old new (fetched.Frame f) =
    Reads left left' old new (frame_at new.held f ∷ []) × IsFrame (frame_at new.held f) × (f.start + f.len ≤ length new.held)
    × (length (waiting old) < MAX_PIECE → length (waiting new) < MAX_PIECE)
FetchIs faults faults' left left' old new (fetched.Ended end) =
    Reads left left' old new [] × IsReadEnd end × EndsAs end new.taken (waiting new) left' × (end ≡ ReadFault → Rose faults faults')
    × (length (waiting old) < MAX_PIECE → AheadAs end (length (waiting new)))
