-- What a reader of frames is seen as, and what its calls do.
use Rattle.std.specs.Prelude.{◌≡◌, ℕ, ◌+◌, ◌<◌, ◌≤◌, List, ◌++◌, length, take, drop}
use Rattle.nb_units.specs.Frames.{Frame, frame, IsFrame, HeaderFault, Bad, front_of}
use Rattle.nb_units.specs.declared.frames.TheConstants.{HEADER, MAX_BODY}
use Rattle.nb_frame.specs.Faults.{placed}
use Rattle.nb_frame.specs.Looks.{IsShort}
use Rattle.nb_frame.specs.declared.stream.FrameAt.{FrameAt}
use Rattle.nb_frame.specs.declared.stream.Next.{Next}
use Rattle.nb_frame.specs.declared.stream.Next.TheVariants as next
use Rattle.nb_frame.specs.State.{Collected, waiting}

-- what stands where a frame was told
abbrev pub frame_at : List ℕ → FrameAt → Frame
frame_at held f = record { kind = f.kind; body = take f.len (drop f.start held) }

-- a frame is given out: it stood at the front of what waited, and what followed it waits now
pub record TakesFrame (old new : Collected) (f : FrameAt) : Type 0 where
  pub lawful : IsFrame (frame_at old.held f)
  pub is : waiting old ≡ frame (frame_at old.held f) ++ waiting new
  pub start : f.start ≡ old.at + HEADER
  pub within : f.start + f.len ≤ length old.held
  pub length_is : length (take f.len (drop f.start old.held)) ≡ f.len
  pub held : new.held ≡ old.held
  pub taken : new.taken ≡ old.taken + length (frame (frame_at old.held f))

-- what is told of what waits: a frame, which is given out; that it is no frame yet, and less than one; or the first fault of its
-- header, with its place in the stream. Then nothing is given out
abbrev pub NextIs : Collected → Collected → Next → Type 0
NextIs old new (next.Frame f) = TakesFrame old new f
NextIs old new next.More = (new ≡ old) × IsShort (front_of (waiting old)) × (length (waiting old) < HEADER + MAX_BODY)
NextIs old new (next.Bad fault) = (new ≡ old) × ((h : HeaderFault) × (front_of (waiting old) ≡ Bad h) × (fault ≡ placed old.taken h))
