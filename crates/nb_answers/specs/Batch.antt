-- What answering the frames of the input comes to.
use Rattle.std.specs.Prelude.{◌≡◌, ◌≢◌, ℕ, ◌+◌, ◌≤◌, ◌<◌, ◌⊎◌, List, [], ◌++◌, Option, Some, length, map, IfSome}
use Rattle.std.specs.List.{flat_map, AllByRecursion}
use Rattle.std.specs.Io.KnownBytes.{Consumes, Appends, IsAtEnd}
use Rattle.nb_port.specs.Tells.{DiskTells}
use Rattle.nb_port.specs.Faults.{Rose, Backed}
use Rattle.nb_units.specs.declared.charter.Charter.{Charter}
use Rattle.nb_units.specs.Frames.{Frame, frame, IsFrame, HeaderFault, Partial, Bad, front_of, IsBad, Splits}
use Rattle.nb_frame.specs.Faults.{placed, place_of}
use Rattle.nb_frame.specs.Looks.{IsShort}
use Rattle.nb_frame.specs.declared.stream.TheConstants.{MAX_PIECE}
use Rattle.nb_units.specs.declared.frames.TheConstants.{HEADER}
use Rattle.nb_entry.specs.declared.entry.Entry.{Entry}
use Rattle.nb_book.specs.Legal.{LegalUnder}
use Rattle.nb_escrow.specs.Head.{head_of}
use Rattle.nb_journal.specs.Time.{Unwritten}
use Rattle.nb_vault.specs.declared.vault.opening.VaultFault.{VaultFault}
use Rattle.nb_vault.specs.Holdings.{StandsFor, StandsForEither}
use Rattle.nb_vault.specs.Opens.{VaultOpenFails}
use Rattle.nb_turns.specs.declared.line.Line.{Line}
use Rattle.nb_turns.specs.Lines.{entries_of}
use Rattle.nb_turns.specs.Turns.{State, Answered, decided, last_state, replies}
use Rattle.nb_turns.specs.Laws.{IsBalanced}
use Rattle.nb_vault.specs.Rules.{house_of}
use Rattle.nb_batch.specs.declared.batch.TheConstants.{MOST_FRAMES}
use Rattle.nb_commands.specs.declared.ending.Ending.{Ending}
use Rattle.nb_commands.specs.declared.ending.TheConstants.{CLEAN, SOURCE_FAILED, SINK_FAILED, BAD_INPUT, OUT_OF_MEMORY, DISK_FAILED, NO_JOURNAL, FRAME_LIMIT}
use Rattle.nb_commands.specs.Opening.{unopened}
use Rattle.nb_batch.specs.declared.answering.Answerer.{Answerer}
use Rattle.nb_batch.specs.declared.answering.Answerer.TheVariants as answers
use Rattle.nb_batch.specs.Answering.{Asked, Goes}
use Rattle.nb_batch.specs.Batch.{at_rest, frame_of, moment_of, AllDecided, failures_told, Outside, WroteShort, StandsInRun, GoesThrough, last_disk}

-- ---- over a journal that was not opened

-- it was not opened, and nothing was taken, sent, asked for or written
pub record NotOpened {D : Type 0} (tells : DiskTells D) (old new : D) (before after : Outside) (ending : Ending) : Type 0 where
  pub fault : VaultFault
  pub ends : ending ≡ unopened fault
  pub why : VaultOpenFails tells old new fault
  pub nothing : after ≡ before
  pub unwritten : Unwritten tells old new

-- ---- over a journal that was opened

-- how the input ended badly, by the bytes that were read, the frames that were answered, the rest of these bytes, what is left of the
-- source, and the place that is shown: within a frame, where nothing is left, at the number of the bytes that were read; or with what
-- no frame is, at the place of its first fault among these bytes
abbrev pub EndsBadly : List ℕ → List Frame → List ℕ → Option (List ℕ) → ℕ → Type 0
EndsBadly read frames rest left place =
    ((front_of rest ≡ Partial) × IsAtEnd left × (place ≡ length read))
    ⊎ ((h : HeaderFault) × (front_of rest ≡ Bad h) × (place ≡ place_of (placed (length (flat_map frame frames)) h)))

-- What a batch did, by the status that it ended with, where a house answered it or a standby.
pub record Batch {D : Type 0} (tells : DiskTells D) (by : Answerer) (old new : D) (before after : Outside) (ending : Ending) : Type 0 where
  -- what the journal was made with, its cap and its entries; the requests that were answered, and the states that the house came to; the disk
  -- behind opening, and behind each turn; the bytes read from the source are the frames of these requests, further frames, and a rest
  -- that begins with none
  pub charter : Charter
  pub cap : ℕ
  pub opening : List Entry
  pub answered : List Answered
  pub states : List State
  pub last : State
  pub opened : D
  pub disks : List D
  pub read : List ℕ
  pub unanswered : List Frame
  pub rest : List ℕ
  -- the content at entry stands for these entries
  pub stands : IfSome (tells.content old) (StandsFor charter cap opening)
  -- the requests that were answered are the first frames of the bytes read
  pub took : Consumes before.left after.left read
  pub frames : Splits read (map frame_of answered ++ unanswered) rest
  -- they are all of them where the input ended, held what is no frame, or failed
  pub all : (ending.status ≡ CLEAN) ⊎ (ending.status ≡ BAD_INPUT) ⊎ (ending.status ≡ SOURCE_FAILED) → unanswered ≡ []
  -- where a write failed or the limit of frames was reached less than a piece was read ahead of the last answer, and where the input
  -- held what is no frame at most a header more. Elsewhere the rest is less than a frame, as is said below
  pub ahead : (ending.status ≡ SINK_FAILED) ⊎ (ending.status ≡ FRAME_LIMIT) → length (flat_map frame unanswered ++ rest) < MAX_PIECE
  pub ahead_bad : ending.status ≡ BAD_INPUT → IsBad (front_of rest) → length rest < MAX_PIECE + HEADER
  -- one answer of the clock for each; a standby asks none
  pub asked : Asked by before.moments after.moments (map moment_of answered)
  -- there is a run of turns over them, or of what a standby makes of records, from the entries with nothing in doubt
  pub turns : Goes by charter cap (at_rest opening) answered states
  pub last_is : last ≡ last_state (at_rest opening) states
  -- their replies are what was written
  pub wrote : ending.status ≢ SINK_FAILED → Appends before.sent after.sent (replies answered)
  -- after a failed write: all replies before the last one, and a part of that
  pub wrote_short : ending.status ≡ SINK_FAILED → WroteShort before after answered
  -- the faults of turns lie one after another between the disk's counts; where these did not rise, each turn decided
  pub backed : Backed (tells.faults old) (failures_told answered) (tells.faults new)
  pub steady : (Rose (tells.faults old) (tells.faults new) → ⊥) → AllDecided answered
  -- where each turn of a house decides, the replies are a function of the entries, the head, the cap and the requests alone
  pub alone : by ≡ answers.House → AllDecided answered → replies answered ≡ replies (decided (house_of (head_of charter) cap) opening (map (λ (a : Answered). a.request) answered))
  -- the disk is at rest in the last state: its content, and all that a stop now leaves, stands for its entries, without what is in
  -- doubt or with it
  pub content_rests : IfSome (tells.content new) (StandsForEither charter cap last.entries last.doubt)
  pub images_rest : (image : List ℕ) → tells.allowed new image → StandsForEither charter cap last.entries last.doubt image
  -- opening wrote nothing. The disk holds the entries of the state behind opening and behind each turn, and a stop since one of these
  -- and up to the next leaves those of the one state or of the other; the last of these disks is the one that is handed back
  pub opened_so : Unwritten tells old opened
  pub through : GoesThrough tells charter cap (at_rest opening) opened states disks
  pub handed_back : new ≡ last_disk opened disks
  -- where the house never left the state that it was opened in, the content is as before
  pub quiet : AllByRecursion (λ state. state ≡ at_rest opening) states → tells.content new ≡ tells.content old
  -- a stop at any moment since the start left what might have been left at the start, or what stands so for one of the states
  pub later : tells.moment old ≤ tells.moment new
  pub stops : (image : List ℕ) → tells.left new (tells.moment old) image → tells.allowed old image ⊎ StandsInRun charter cap (at_rest opening) states image
  -- what is recorded is legal under the version and the rate of the journal, with what is in doubt too; each order is settled at most once,
  -- and money is neither made nor lost
  pub legal : LegalUnder charter.version charter.rate (last.entries ++ last.doubt)
  pub within : length (last.entries ++ last.doubt) ≤ cap
  pub money : IsBalanced last.entries
  -- after status 0 no byte is over and nothing is left of the source
  pub clean : ending.status ≡ CLEAN → (rest ≡ []) × IsAtEnd after.left
  -- after status 5 the rest is a cut frame and nothing is left, or no frame begins so; the place is the number of the bytes read, or
  -- that of the fault
  pub bad : ending.status ≡ BAD_INPUT → EndsBadly read (map frame_of answered) rest after.left ending.place
  -- after status 3 the rest is nothing or a part of a frame, and after status 6 nothing was read
  pub failed : ending.status ≡ SOURCE_FAILED → IsShort (front_of rest)
  pub starved : ending.status ≡ OUT_OF_MEMORY → (answered ≡ []) × (read ≡ [])
  -- where no frame begins like the rest, the status is 5, or 4 or 11, where frames before it may wait; where there is a rest at all it is
  -- one of these, or 3
  pub bad_frame : IsBad (front_of rest) → (ending.status ≡ BAD_INPUT) ⊎ (ending.status ≡ SINK_FAILED) ⊎ (ending.status ≡ FRAME_LIMIT)
  pub any_rest : rest ≢ [] → (ending.status ≡ BAD_INPUT) ⊎ (ending.status ≡ SINK_FAILED) ⊎ (ending.status ≡ FRAME_LIMIT) ⊎ (ending.status ≡ SOURCE_FAILED)
  -- at most so many frames are answered
  pub few : length answered ≤ MOST_FRAMES
  pub spent : ending.status ≡ FRAME_LIMIT → length answered ≡ MOST_FRAMES
  pub most : length answered ≡ MOST_FRAMES → (ending.status ≡ FRAME_LIMIT) ⊎ (ending.status ≡ SINK_FAILED)
  -- no place is shown but after status 5
  pub nowhere : ending.status ≢ BAD_INPUT → ending.place ≡ 0
  pub ends : (ending.status ≡ CLEAN) ⊎ (ending.status ≡ SOURCE_FAILED) ⊎ (ending.status ≡ SINK_FAILED) ⊎ (ending.status ≡ BAD_INPUT) ⊎ (ending.status ≡ OUT_OF_MEMORY) ⊎ (ending.status ≡ FRAME_LIMIT)

-- the journal was not opened, or the frames were answered
abbrev pub BatchIs : {D : Type 0} → DiskTells D → Answerer → D → D → Outside → Outside → Ending → Type 0
BatchIs tells by old new before after ending =
    NotOpened tells old new before after ending ⊎ Batch tells by old new before after ending

-- the input is fewer than so many whole frames and nothing else
pub record IsWholeInput (left : Option (List ℕ)) : Type 0 where
  pub frames : List Frame
  pub lawful : AllByRecursion IsFrame frames
  pub few : length frames < MOST_FRAMES
  pub is : left ≡ Some (flat_map frame frames)

-- ---- for who goes on from a batch

-- the journal was not opened, or the frames were answered, and these are the lines of what was done: the last entries are those at opening and then those
-- that the lines record. Without a journal that was opened there are none
abbrev pub BatchLines : {D : Type 0} → DiskTells D → Answerer → D → D → Outside → Outside → List Line → Ending → Type 0
BatchLines tells by old new before after lines ending =
    (NotOpened tells old new before after ending × (lines ≡ []))
    ⊎ ((batch : Batch tells by old new before after ending) × (batch.last.entries ≡ entries_of batch.opening lines))

-- how a batch ends over whole frames alone, where the sink did not fail
abbrev pub EndsWhole : Ending → Type 0
EndsWhole ending =
    (ending.status ≡ CLEAN) ⊎ (ending.status ≡ OUT_OF_MEMORY) ⊎ (ending.status ≡ SOURCE_FAILED) ⊎ (ending.status ≡ NO_JOURNAL) ⊎ (ending.status ≡ DISK_FAILED)
