-- A stream in pieces: any calls of a reader of frames, one after another.
use Rattle.std.specs.Prelude.{◌≡◌, ℕ, List, [], ◌∷◌, ◌++◌, length}
use Rattle.std.specs.List.{flat_map}
use Rattle.nb_units.specs.Frames.{Frame, frame, HeaderFault, Bad, front_of, Splits}
use Rattle.nb_frame.specs.declared.fault.FrameFault.{FrameFault}
use Rattle.nb_frame.specs.State.{Collected, waiting, unfed, fed}
use Rattle.nb_frame.specs.Faults.{placed}
use Rattle.nb_frame.specs.Looks.{IsShort}
use Rattle.nb_frame.specs.Collected.{frame_at, NextIs}
use Rattle.nb_frame.specs.declared.stream.Next.{Next}
use Rattle.nb_frame.specs.declared.stream.Next.TheVariants as next
use Rattle.nb_frame.specs.declared.stream.TheConstants.{MAX_PIECE, MAX_HELD}

-- a call: a piece was fed, or `next` told this and left the reader so
pub data Call : Type 0 where
  Feeds : List ℕ → Call
  Tells : Next → Collected → Call

-- calls that lead from one state of a reader to another, pieces and looks in any order, where what waits at a feed is less than a frame
abbrev pub Calls : Collected → List Call → Collected → Type 0
Calls old [] new = new ≡ old
Calls old (Feeds piece ∷ more) new = IsShort (front_of (waiting old)) × Calls (fed old piece) more new
Calls old (Tells answer behind ∷ more) new = NextIs old behind answer × Calls behind more new

-- the bytes that a call feeds
abbrev pub piece_of : Call → List ℕ
piece_of (Feeds piece) = piece
piece_of (Tells answer behind) = []

-- the frame that is told, where one is, among the bytes that are held
abbrev pub told : List ℕ → Next → List Frame
told held (next.Frame f) = frame_at held f ∷ []
told held next.More = []
told held (next.Bad fault) = []

-- the frame that a call gives out, where it gives one
abbrev pub frames_of : Call → List Frame
frames_of (Feeds piece) = []
frames_of (Tells answer behind) = told behind.held answer

-- all pieces joined
abbrev pub stream_of : List Call → List ℕ
stream_of calls = flat_map piece_of calls

-- all frames that were given out
abbrev pub given : List Call → List Frame
given calls = flat_map frames_of calls

-- what is told behind the last frame of a stream, by the number of the bytes before the rest, and the rest: that less than a frame
-- waits, or the fault of what is no frame, with its place in the stream
abbrev pub EndsIn : ℕ → List ℕ → Next → Type 0
EndsIn before rest (next.Frame f) = ⊥
EndsIn before rest next.More = IsShort (front_of rest)
EndsIn before rest (next.Bad fault) = (h : HeaderFault) × (front_of rest ≡ Bad h) × (fault ≡ placed before h)

-- a stream is these frames, this rest, and so it ends
pub record ReadsAs (stream : List ℕ) (frames : List Frame) (rest : List ℕ) (answer : Next) : Type 0 where
  pub splits : Splits stream frames rest
  pub ends : EndsIn (length (flat_map frame frames)) rest answer

-- no frame is told
abbrev pub IsEnd : Next → Type 0
IsEnd (next.Frame f) = ⊥
IsEnd next.More = Unit {0}
IsEnd (next.Bad fault) = Unit {0}

-- ---- laws

-- whatever the pieces were: where `next` tells no frame any more, what was given out are the frames of all pieces joined, what waits is
-- their rest, and what is told is their end. So far as many bytes were given out as these frames have
abbrev pub InAnyCut : Type 0
InAnyCut = (calls : List Call) (last behind : Collected) (answer : Next) → Calls unfed calls last → NextIs last behind answer → IsEnd answer
    → ReadsAs (stream_of calls) (given calls) (waiting last) answer × (last.taken ≡ length (flat_map frame (given calls)))

-- one stream in two cuts gives the same frames, leaves the same rest, and ends in the same answer
abbrev pub SameInAnyCut : Type 0
SameInAnyCut = (calls others : List Call) (last behind latter beyond : Collected) (answer other : Next)
    → Calls unfed calls last → NextIs last behind answer → IsEnd answer
    → Calls unfed others latter → NextIs latter beyond other → IsEnd other
    → stream_of calls ≡ stream_of others → (given calls ≡ given others) × (waiting last ≡ waiting latter) × (answer ≡ other)

-- a stream that was fed up to a fault in one cut, and further in another, gives the same frames before the fault and ends in the same
-- fault, and what was fed further waits behind it
abbrev pub FaultInAnyCut : Type 0
FaultInAnyCut = (calls others : List Call) (last behind latter beyond : Collected) (fault : FrameFault) (other : Next) (more : List ℕ)
    → Calls unfed calls last → NextIs last behind (next.Bad fault)
    → Calls unfed others latter → NextIs latter beyond other → IsEnd other
    → stream_of others ≡ stream_of calls ++ more → (given calls ≡ given others) × (waiting last ++ more ≡ waiting latter) × (next.Bad fault ≡ other)

-- a fault is that of the whole stream, whatever bytes follow the pieces that were fed
abbrev pub FaultStays : Type 0
FaultStays = (stream rest more : List ℕ) (frames : List Frame) (fault : FrameFault) → ReadsAs stream frames rest (next.Bad fault) → ReadsAs (stream ++ more) frames (rest ++ more) (next.Bad fault)

-- the most bytes of a piece, and of what is held
abbrev pub FeedLimitsAre : Type 0
FeedLimitsAre = (MAX_PIECE ≡ 65536) × (MAX_HELD ≡ 1114120)
