-- One session: what was read of a link, by which turns its frames were answered, what was sent, and how it ended.
use Rattle.std.specs.Prelude.{◌≡◌, ℕ, ◌<◌, ◌≤◌, ◌⊎◌, List, [], ◌∷◌, ◌++◌, Option, None, Some, ⊤, length, map, take}
use Rattle.std.specs.List.{flat_map}
use Rattle.std.specs.Io.KnownBytes.{Consumes, Appends, IsAtEnd}
use Rattle.nb_port.specs.Tells.{DiskTells}
use Rattle.nb_port.specs.Faults.{Rose}
use Rattle.nb_link.specs.Link.{LinkSeen}
use Rattle.nb_units.specs.Frames.{Frame, frame, Partial, front_of, Splits}
use Rattle.nb_frame.specs.Looks.{IsShort}
use Rattle.nb_frame.specs.Cuts.{EndsIn}
use Rattle.nb_frame.specs.declared.stream.Next.TheVariants as next
use Rattle.nb_wire.specs.Reads.{joined, with_readings}
use Rattle.nb_escrow.specs.Head.{head_of}
use Rattle.nb_turns.specs.declared.limits.TheConstants.{MAX_FAULTS, MAX_REQUESTS}
use Rattle.nb_turns.specs.declared.line.Line.{Line}
use Rattle.nb_turns.specs.declared.mark.Mark.{Mark}
use Rattle.nb_turns.specs.Turns.{Request, House, Outcome, Decides, Fails, Refuses, answered, marks, replies}
use Rattle.nb_turns.specs.Callers.{Turned, AnsweredTurns, answers_in}
use Rattle.nb_turn.specs.declared.chronicle.View.{View}
use Rattle.nb_vault.specs.declared.answer.AnswerAll.{AnswerAll}
use Rattle.nb_vault.specs.declared.answer.AnswerAll.TheVariants as all
use Rattle.nb_vault.specs.declared.origin.Origin.{Origin}
use Rattle.nb_vault.specs.Rules.{house_of}
use Rattle.nb_desk.specs.Asks.{Asks, GoesOnAtLast, turned}
use Rattle.nb_session.specs.declared.ended.TheConstants.{MOST_FRAMES}
use Rattle.nb_session.specs.declared.ended.SessionEnd.{SessionEnd}
use Rattle.nb_session.specs.declared.ended.SessionEnd.TheVariants.{Clean, Cut, BadFrame, ReadFault, WriteFault, Spent, NoMemory}
use Rattle.nb_session.specs.declared.ended.Record.{Record}

-- ---- turns

-- the house that was opened with this origin
abbrev pub house_at : Origin → House
house_at origin = house_of (head_of origin.charter) origin.cap

-- what a vault answers where a turn went so
abbrev pub answer_of : Outcome → AnswerAll
answer_of (Decides over) = all.Answered
answer_of (Fails before after) = all.DiskFault before after
answer_of Refuses = all.Worn MAX_FAULTS

-- a turn that a pass took at its desk: it knew v before and w behind it, and the desk's vault answered it as it went
pub record TurnAt {D : Type 0} (tells : DiskTells D) (by : ℕ) (v w : View Origin Line) (turn : Turned) : Type 0 where
  pub found : List ℕ
  pub out : List ℕ
  pub given : List ℕ
  pub asks : Asks tells by v w turn.requests turn.outcome found out given (answer_of turn.outcome)
  pub turn_is : turn ≡ turned turn.requests turn.outcome asks.meets.others asks.went.added
  pub goes_on : GoesOnAtLast v w

-- a pass that knew v first and w last took these turns, one after another
abbrev pub TurnsAt : {D : Type 0} → DiskTells D → ℕ → View Origin Line → List Turned → View Origin Line → Type 0
TurnsAt tells by v [] w = w ≡ v
TurnsAt tells by v (turn ∷ more) w = (between : View Origin Line) × TurnAt tells by v between turn × TurnsAt tells by between more w

-- ---- what was asked, and what was told

-- the frame that a request came in
abbrev pub frame_of : Request → Frame
frame_of request = record { kind = request.kind; body = request.body }

-- those of several
abbrev pub frames_of : List Request → List Frame
frames_of requests = map frame_of requests

-- the moments at which they are asked
abbrev pub moments_of : List Request → List ℕ
moments_of requests = map (λ (request : Request). request.moment) requests

-- the requests of all turns, their frames and their moments
abbrev pub requests_in : List Turned → List Request
requests_in turns = flat_map (λ (turn : Turned). turn.requests) turns

-- the frames of all turns, in order
abbrev pub frames_in : List Turned → List Frame
frames_in turns = frames_of (requests_in turns)

-- the moments of all turns, in order
abbrev pub moments_in : List Turned → List ℕ
moments_in turns = moments_of (requests_in turns)

-- the marks of all turns, and their replies, one behind another
abbrev pub marks_in : House → List Turned → List Mark
marks_in house turns = marks (answers_in house turns)

-- the replies of all turns, one behind another
abbrev pub replies_in : House → List Turned → List ℕ
replies_in house turns = replies (answers_in house turns)

-- the replies of one turn
abbrev pub replies_of : House → Turned → List ℕ
replies_of house turn = replies (answered house turn.requests turn.outcome)

-- a clock gave these moments
abbrev pub Gave : Option (List ℕ) → Option (List ℕ) → List ℕ → Type 0
Gave old None moments = ⊤
Gave None (Some given) moments = ⊥
Gave (Some before) (Some given) moments = given ≡ before ++ moments

-- ---- what was read

-- these frames are all whole ones that the first so many pieces have
pub record EndsRead (pieces : List (List ℕ)) (frames : List Frame) : Type 0 where
  pub first : List (List ℕ)
  pub later : List (List ℕ)
  pub rest : List ℕ
  pub pieces_are : pieces ≡ first ++ later
  pub splits : Splits (joined first) frames rest

-- the first of these turns answered all whole frames of these pieces, and nothing else
pub record AreAnswered (pieces : List (List ℕ)) (turns : List Turned) : Type 0 where
  pub done : List Turned
  pub more : List Turned
  pub rest : List ℕ
  pub turns_are : turns ≡ done ++ more
  pub splits : Splits (joined pieces) (frames_in done) rest

-- each piece was read only where all whole frames of those before it were answered
abbrev pub IsPrompt : List (List ℕ) → List Turned → Type 0
IsPrompt pieces turns = (n : ℕ) → n < length pieces → AreAnswered (take n pieces) turns

-- a turn of so many requests, with which these frames were answered, is as long as it may be: it has as many requests as a turn may have,
-- or ends with the last frame of the session, or with the last one that had been read
abbrev pub IsLong : List (List ℕ) → ℕ → List Frame → Type 0
IsLong pieces count frames = (count ≡ MAX_REQUESTS) ⊎ ((length frames ≡ MOST_FRAMES) ⊎ EndsRead pieces frames)

-- so is each of these turns, before which these frames were answered
abbrev pub AreLong : List (List ℕ) → List Frame → List Turned → Type 0
AreLong pieces done [] = Unit {0}
AreLong pieces done (turn ∷ more) =
    IsLong pieces (length turn.requests) (done ++ frames_of turn.requests) × AreLong pieces (done ++ frames_of turn.requests) more

-- ---- what was sent

-- all replies of the turns before the last one were sent, and a part of the last one's, from its front
pub record WroteShort (house : House) (sent sent' : Option (List ℕ)) (turns : List Turned) : Type 0 where
  pub whole : List Turned
  pub last : Turned
  pub turns_are : turns ≡ whole ++ last ∷ []
  pub count : ℕ
  pub less : count < length (replies_of house last)
  pub appends : Appends sent sent' (replies_in house whole ++ take count (replies_of house last))

-- what was sent where the session ended so: all replies, but for a failed write
abbrev pub Wrote : House → Option (List ℕ) → Option (List ℕ) → List Turned → SessionEnd → Type 0
Wrote house sent sent' turns WriteFault = WroteShort house sent sent' turns
Wrote house sent sent' turns other = Appends sent sent' (replies_in house turns)

-- ---- the end

-- all frames that were read are answered where the session ended so
abbrev pub AnswersAll : SessionEnd → Type 0
AnswersAll WriteFault = ⊥
AnswersAll Spent = ⊥
AnswersAll other = ⊤

-- why a session ended so, by the bytes that were read, how many of them the answered frames have, what follows the frames that were
-- read, how many frames were answered, and the link before and behind
abbrev pub EndsAs : List ℕ → ℕ → List ℕ → ℕ → LinkSeen → LinkSeen → SessionEnd → Type 0
EndsAs bytes taken rest count old new Clean = (rest ≡ []) × IsAtEnd new.left × (count < MOST_FRAMES)
EndsAs bytes taken rest count old new (Cut place) = (front_of rest ≡ Partial) × IsAtEnd new.left × (place ≡ length bytes) × (count < MOST_FRAMES)
EndsAs bytes taken rest count old new (BadFrame fault) = EndsIn taken rest (next.Bad fault) × (count < MOST_FRAMES)
EndsAs bytes taken rest count old new ReadFault = Rose old.read_faults new.read_faults × IsShort (front_of rest) × (count < MOST_FRAMES)
EndsAs bytes taken rest count old new WriteFault = Rose old.write_faults new.write_faults × (count ≤ MOST_FRAMES)
EndsAs bytes taken rest count old new Spent = count ≡ MOST_FRAMES
EndsAs bytes taken rest count old new NoMemory = (bytes ≡ []) × (new ≡ old) × (count ≡ 0)

-- A session of the pass number `by`, which knew v before it and w behind it, over a link and a clock as they were before and are behind
-- it, with these moments and marks, and which ended so
pub record Session {D : Type 0} (tells : DiskTells D) (by : ℕ) (v w : View Origin Line) (old new : LinkSeen) (clock clock' : Option (List ℕ)) (moments : List ℕ) (marks : List Mark) (end : SessionEnd) : Type 0 where
  -- what the desk's vault was opened with, before and behind
  pub origin : Origin
  pub origin_is : v.origin ≡ Some origin
  pub same_origin : w.origin ≡ v.origin
  -- the turns, the pieces that were read, the frames that were read and not answered, and what follows them
  pub turns : List Turned
  pub pieces : List (List ℕ)
  pub unanswered : List Frame
  pub rest : List ℕ
  -- the pieces were the next bytes of the link; the frames that were answered are the first of them, and all of them where the session
  -- did not end before it came to that. It ended so
  pub took : Consumes old.left new.left (joined pieces)
  pub frames : Splits (joined pieces) (frames_in turns ++ unanswered) rest
  pub all : AnswersAll end → unanswered ≡ []
  pub ends : EndsAs (joined pieces) (length (flat_map frame (frames_in turns))) rest (length (frames_in turns)) old new end
  -- there is one moment for each frame that was answered, which the clock gave for it, and one mark, that of its turn
  pub asked : Gave clock clock' moments
  pub moments_are : moments ≡ moments_in turns
  pub marks_are : marks ≡ marks_in (house_at origin) turns
  -- each turn was one of the desk's vault; the pass has seen its lines and those of others before it, and what each turn was answered is
  -- what its lines tell
  pub at_desk : TurnsAt tells by v turns w
  pub answered : AnsweredTurns (house_at origin) origin.entries by v.seen turns w.seen
  -- the replies were sent
  pub wrote : Wrote (house_at origin) old.sent new.sent turns end
  -- the turns are as long as the reading allowed, what was read was answered before more was read; and where the link tells its
  -- reads, each that gave bytes asked for a whole piece
  pub reads : new.reads ≡ with_readings old.reads pieces
  pub long : AreLong pieces [] turns
  pub prompt : IsPrompt pieces turns
  -- no count of the link fell
  pub read_count : old.read_faults ≤ new.read_faults
  pub write_count : old.write_faults ≤ new.write_faults

-- what stands around a session, before it or behind it: what its pass knows, its link, and the moments that its clock gave
pub record Around : Type 0 where
  pub view : View Origin Line
  pub link : LinkSeen
  pub moments : Option (List ℕ)

-- what a pass, a link and a clock are around a session
abbrev pub around : View Origin Line → LinkSeen → Option (List ℕ) → Around
around view link moments = record { view = view; link = link; moments = moments }

-- the record tells of such a session, its number, and how many lines the pass had seen before it and behind it
pub record IsTold {D : Type 0} (tells : DiskTells D) (by number : ℕ) (old new : Around) (told : Record) : Type 0 where
  pub session : Session tells by old.view new.view old.link new.link old.moments new.moments told.moments.items told.marks.items told.end
  pub number_is : told.number ≡ number
  pub before : told.seen_before ≡ length old.view.seen
  pub behind : told.seen_after ≡ length new.view.seen
