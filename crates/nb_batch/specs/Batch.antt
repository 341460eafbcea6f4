-- What a batch does: the frames of the input are answered in order, one turn after another.
use Rattle.std.specs.Prelude.{◌≡◌, ℕ, ◌<◌, ◌≤◌, ◌⊎◌, List, [], ◌∷◌, ◌++◌, Option, ⊤, length, map, take}
use Rattle.std.specs.List.{flat_map, AllByRecursion}
use Rattle.std.specs.Option.{option_to_list}
use Rattle.std.specs.Io.KnownBytes.{Consumes, Appends}
use Rattle.nb_units.specs.declared.charter.Charter.{Charter}
use Rattle.nb_port.specs.Tells.{DiskTells}
use Rattle.nb_port.specs.Faults.{Rose, Failure, Backed}
use Rattle.nb_units.specs.Frames.{Frame, frame, IsFrame, Splits}
use Rattle.nb_frame.specs.State.{Collected, waiting}
use Rattle.nb_frame.specs.declared.stream.TheConstants.{MAX_PIECE}
use Rattle.nb_journal.specs.Time.{LeavesOnly}
use Rattle.nb_entry.specs.declared.entry.Entry.{Entry}
use Rattle.nb_turns.specs.declared.mark.Mark.{Mark}
use Rattle.nb_turns.specs.declared.mark.Mark.TheVariants.{At}
use Rattle.nb_turns.specs.Turns.{State, Answered, last_state, IsStateOf, replies}
use Rattle.nb_vault.specs.Holdings.{StandsForEither}
use Rattle.nb_vault.specs.Vaults.{Chronicled, state_of}
use Rattle.nb_batch.specs.declared.answering.Answerer.{Answerer}
use Rattle.nb_batch.specs.declared.batch.TheConstants.{MOST_FRAMES}
use Rattle.nb_batch.specs.declared.batch.BatchEnd.{BatchEnd}
use Rattle.nb_batch.specs.declared.batch.BatchEnd.TheVariants.{ReadFault, WriteFault, NoMemory, FrameLimit}
use Rattle.nb_batch.specs.declared.batch.Step.{Step}
use Rattle.nb_batch.specs.declared.batch.Step.TheVariants as step
use Rattle.nb_batch.specs.Answering.{Asked, AsksOnce, Goes, GoesTo, failure_in_mark}
use Rattle.nb_batch.specs.Fetch.{Reads, AheadAs, EndsAs, IsReadEnd}
use Rattle.nb_batch.specs.Send.{SentPart}

-- a house with nothing in doubt and no faults
abbrev pub at_rest : List Entry → State
at_rest entries = record { entries = entries; doubt = []; faults = 0 }

-- the frame that a request came in
abbrev pub frame_of : Answered → Frame
frame_of a = record { kind = a.request.kind; body = a.request.body }

-- the moment at which it was answered
abbrev pub moment_of : Answered → ℕ
moment_of a = a.request.moment

-- the failures of these turns, in their order
abbrev pub failures_told : List Answered → List Failure
failures_told answered = flat_map (λ (a : Answered). option_to_list (failure_in_mark a.mark)) answered

-- a turn decided
abbrev pub IsDecided : Mark → Type 0
IsDecided (At place) = ⊤
IsDecided other = ⊥

-- each turn decided
abbrev pub AllDecided : List Answered → Type 0
AllDecided answered = AllByRecursion (λ (a : Answered). IsDecided a.mark) answered

-- what the source, the sink and the clock tell: the bytes left, the bytes sent, the moments given
pub record Outside : Type 0 where
  pub left : Option (List ℕ)
  pub sent : Option (List ℕ)
  pub moments : Option (List ℕ)

-- the image stands for the entries of one of the states of a run, without those in doubt in it or with them
pub record StandsInRun (charter : Charter) (cap : ℕ) (first : State) (states : List State) (image : List ℕ) : Type 0 where
  pub state : State
  pub is : IsStateOf first states state
  pub stands : StandsForEither charter cap state.entries state.doubt image

-- what a stop may leave of the disk stands for the entries of the state, without those in doubt in it or with them
abbrev pub HoldsState : {D : Type 0} → DiskTells D → Charter → ℕ → State → D → Type 0
HoldsState tells charter cap state disk = (image : List ℕ) → tells.allowed disk image → StandsForEither charter cap state.entries state.doubt image

-- from a disk that holds the first state a batch came to these disks, one for each state of its run and each holding its own. A stop
-- since one of them and up to the next leaves what stands for the state of the one or of the other
abbrev pub GoesThrough : {D : Type 0} → DiskTells D → Charter → ℕ → State → D → List State → List D → Type 0
GoesThrough tells charter cap first disk [] [] = HoldsState tells charter cap first disk
GoesThrough tells charter cap first disk (next ∷ states) (behind ∷ disks) =
    HoldsState tells charter cap first disk
    × LeavesOnly tells disk behind (λ image. StandsForEither charter cap first.entries first.doubt image ⊎ StandsForEither charter cap next.entries next.doubt image)
    × GoesThrough tells charter cap next behind states disks
GoesThrough tells charter cap first disk [] (behind ∷ disks) = ⊥
GoesThrough tells charter cap first disk (next ∷ states) [] = ⊥

-- the disk behind the last turn
abbrev pub last_disk : {D : Type 0} → D → List D → D
last_disk first [] = first
last_disk first (next ∷ disks) = last_disk next disks

-- ---- one step

-- a frame was given out, a house asked the clock, and the frame was answered
pub record Stepped {D : Type 0} (tells : DiskTells D) (by : Answerer) (held held' : Collected) (old new : Chronicled D) (before after : Outside) : Type 0 where
  pub one : Answered
  pub turn : GoesTo by old.origin.charter old.origin.cap (state_of old) one.request one.mark one.reply (state_of new)
  pub backed : Backed (tells.faults old.disk) (option_to_list (failure_in_mark one.mark)) (tells.faults new.disk)
  pub lawful : IsFrame (frame_of one)
  pub read : Reads before.left after.left held held' (frame_of one ∷ [])
  pub ahead : length (waiting held) < MAX_PIECE → length (waiting held') < MAX_PIECE
  pub asked : AsksOnce by before.moments after.moments one.request.moment

-- bytes were read, of which no frame was given out, and nothing else was done
pub record Stopped {D : Type 0} (held held' : Collected) (old new : Chronicled D) (before after : Outside) : Type 0 where
  pub read : Reads before.left after.left held held' []
  pub same : new ≡ old
  pub unsent : after.sent ≡ before.sent
  pub unasked : after.moments ≡ before.moments

-- what one step of a batch did, by how it went
abbrev pub StepIs : {D : Type 0} → DiskTells D → Answerer → Collected → Collected → Chronicled D → Chronicled D → Outside → Outside → Step → Type 0
StepIs tells by held held' old new before after step.Answered =
    (s : Stepped tells by held held' old new before after) × Appends before.sent after.sent s.one.reply
StepIs tells by held held' old new before after (step.Ended WriteFault) =
    (s : Stepped tells by held held' old new before after) × SentPart before.sent after.sent s.one.reply
StepIs tells by held held' old new before after (step.Ended end) =
    Stopped held held' old new before after × IsReadEnd end × EndsAs end held'.taken (waiting held') after.left
    × (length (waiting held) < MAX_PIECE → AheadAs end (length (waiting held')))

-- ---- the whole batch

-- all replies were sent, or, where the sink failed, all before the last and a part of the last
pub record WroteShort (before after : Outside) (answered : List Answered) : Type 0 where
  pub whole : List Answered
  pub last : Answered
  pub split : answered ≡ whole ++ last ∷ []
  pub count : ℕ
  pub less : count < length last.reply
  pub appends : Appends before.sent after.sent (replies whole ++ take count last.reply)

-- the replies were written, the last one in part after a failed write
abbrev pub Wrote : BatchEnd → Outside → Outside → List Answered → Type 0
Wrote WriteFault before after answered = WroteShort before after answered
Wrote other before after answered = Appends before.sent after.sent (replies answered)

-- the frames of all bytes that were read are answered
abbrev pub AnswersAll : BatchEnd → Type 0
AnswersAll WriteFault = ⊥
AnswersAll FrameLimit = ⊥
AnswersAll other = ⊤

-- how many were answered where the batch ended so
abbrev pub CountsAs : BatchEnd → ℕ → Type 0
CountsAs FrameLimit count = count ≡ MOST_FRAMES
CountsAs WriteFault count = count ≤ MOST_FRAMES
CountsAs NoMemory count = count ≡ 0
CountsAs other count = count < MOST_FRAMES

-- What a batch did over a house, by how it ended
pub record Served {D : Type 0} (tells : DiskTells D) (by : Answerer) (old new : Chronicled D) (before after : Outside) (end : BatchEnd) : Type 0 where
  -- the requests that were answered, the states that the house came to and the disks then; frames that were read and not answered,
  -- and what follows them; all bytes that were read
  pub answered : List Answered
  pub states : List State
  pub disks : List D
  pub unanswered : List Frame
  pub rest : List ℕ
  pub read : List ℕ
  pub took : Consumes before.left after.left read
  pub frames : Splits read (map frame_of answered ++ unanswered) rest
  pub all : AnswersAll end → unanswered ≡ []
  pub ahead : AheadAs end (length (flat_map frame unanswered ++ rest))
  pub ends : EndsAs end (length (flat_map frame (map frame_of answered))) rest after.left
  pub counted : CountsAs end (length answered)
  pub asked : Asked by before.moments after.moments (map moment_of answered)
  pub turns : Goes by old.origin.charter old.origin.cap (state_of old) answered states
  pub last : state_of new ≡ last_state (state_of old) states
  pub backed : Backed (tells.faults old.disk) (failures_told answered) (tells.faults new.disk)
  pub stops : LeavesOnly tells old.disk new.disk (StandsInRun old.origin.charter old.origin.cap (state_of old) states)
  pub through : GoesThrough tells old.origin.charter old.origin.cap (state_of old) old.disk states disks
  pub last_is : new.disk ≡ last_disk old.disk disks
  pub quiet : AllByRecursion (λ state. state ≡ state_of old) states → tells.content new.disk ≡ tells.content old.disk
  pub wrote : Wrote end before after answered

-- which count of faults rose
abbrev pub FaultOf : ℕ → ℕ → ℕ → ℕ → BatchEnd → Type 0
FaultOf source source' sink sink' ReadFault = Rose source source'
FaultOf source source' sink sink' WriteFault = Rose sink sink'
FaultOf source source' sink sink' other = ⊤

-- which count of faults rose in one step
abbrev pub StepFaultOf : ℕ → ℕ → ℕ → ℕ → Step → Type 0
StepFaultOf source source' sink sink' step.Answered = ⊤
StepFaultOf source source' sink sink' (step.Ended end) = FaultOf source source' sink sink' end
