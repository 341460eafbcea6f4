-- What was received over a wire: a link, and the reader of frames that its bytes are fed to.
use Rattle.std.specs.Prelude.{◌≡◌, ℕ, ◌+◌, ◌≤◌, List, [], ◌∷◌, ◌++◌, ⊤, length}
use Rattle.std.specs.List.{flat_map, AllByRecursion}
use Rattle.std.specs.Io.KnownBytes.{Consumes, IsAtEnd}
use Rattle.nb_port.specs.Faults.{Rose}
use Rattle.nb_link.specs.Link.{LinkSeen}
use Rattle.nb_units.specs.Frames.{Frame, frame, IsFrame, front_of}
use Rattle.nb_frame.specs.State.{Collected, waiting}
use Rattle.nb_frame.specs.Looks.{IsShort}
use Rattle.nb_frame.specs.Collected.{frame_at}
use Rattle.nb_frame.specs.Cuts.{EndsIn}
use Rattle.nb_frame.specs.declared.stream.Next.TheVariants as next
use Rattle.nb_wire.specs.Reads.{joined, with_readings}
use Rattle.nb_wire.specs.declared.receiving.LinkEnd.{LinkEnd}
use Rattle.nb_wire.specs.declared.receiving.LinkEnd.TheVariants.{Ended, BadFrame, ReadFault}
use Rattle.nb_wire.specs.declared.receiving.Fetched.{Fetched}
use Rattle.nb_wire.specs.declared.receiving.Fetched.TheVariants as fetched

-- a link, and the reader that its bytes are fed to
pub record Wire : Type 0 where
  pub link : LinkSeen
  pub held : Collected

-- the two together
abbrev pub wire : LinkSeen → Collected → Wire
wire link held = record { link = link; held = held }

-- Exactly these frames were given out: the first of the bytes that waited and of those that were read since. Of what was sent meanwhile
-- nothing is said
pub record Received (old new : Wire) (frames : List Frame) : Type 0 where
  -- what was read, by reads that each asked for a whole piece
  pub pieces : List (List ℕ)
  pub took : Consumes old.link.left new.link.left (joined pieces)
  pub told : new.link.reads ≡ with_readings old.link.reads pieces
  -- what waited and what was read are the frames, and what waits now
  pub is : waiting old.held ++ joined pieces ≡ flat_map frame frames ++ waiting new.held
  pub lawful : AllByRecursion IsFrame frames
  pub taken : new.held.taken ≡ old.held.taken + length (flat_map frame frames)
  -- no count of the link fell
  pub read_count : old.link.read_faults ≤ new.link.read_faults
  pub write_count : old.link.write_faults ≤ new.link.write_faults

-- each piece was read where what waited, and the pieces before it, were less than a frame
abbrev pub IsPrompt : List ℕ → List (List ℕ) → Type 0
IsPrompt waits [] = ⊤
IsPrompt waits (piece ∷ pieces) = IsShort (front_of waits) × IsPrompt (waits ++ piece) pieces

-- nothing was sent, and no write failed
pub record SendsNothing (old new : LinkSeen) : Type 0 where
  pub sent : new.sent ≡ old.sent
  pub write_faults : new.write_faults ≡ old.write_faults

-- the frames were received by reads alone, and no more was read than they wanted
pub record ReceivedPromptly (old new : Wire) (frames : List Frame) : Type 0 where
  pub received : Received old new frames
  pub prompt : IsPrompt (waiting old.held) received.pieces
  pub silent : SendsNothing old.link new.link

-- why no frame comes any more: nothing is left of the link, and so many bytes wait, which are less than a frame; what waits is no frame,
-- with the first fault of its header, at its place in the stream; or a read failed, and less than a frame waits
abbrev pub EndsAs : Wire → Wire → LinkEnd → Type 0
EndsAs old new (Ended rest) = IsAtEnd new.link.left × IsShort (front_of (waiting new.held)) × (rest ≡ length (waiting new.held))
EndsAs old new (BadFrame fault) = EndsIn new.held.taken (waiting new.held) (next.Bad fault)
EndsAs old new ReadFault = Rose old.link.read_faults new.link.read_faults × IsShort (front_of (waiting new.held))

-- what comes next: a frame, which stands among the bytes that are held, or none, and why
abbrev pub Fetches : Wire → Wire → Fetched → Type 0
Fetches old new (fetched.Frame f) = ReceivedPromptly old new (frame_at new.held.held f ∷ []) × (f.start + f.len ≤ length new.held.held)
Fetches old new (fetched.End end) = ReceivedPromptly old new [] × EndsAs old new end
