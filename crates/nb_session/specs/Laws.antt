-- What holds of every session.
use Rattle.std.specs.Prelude.{◌≡◌, ◌⊎◌, ℕ, ◌<◌, ◌≤◌, List, [], ◌∷◌, ◌++◌, Option, Some, length, take}
use Rattle.std.specs.List.{flat_map, AllByRecursion}
use Rattle.nb_port.specs.Tells.{DiskTells}
use Rattle.nb_port.specs.Faults.{Rose}
use Rattle.nb_link.specs.Link.{LinkSeen}
use Rattle.nb_units.specs.Frames.{Frame, frame, IsFrame, Front, Empty, Partial, Whole, Bad, front_of, Splits}
use Rattle.nb_frame.specs.declared.stream.TheConstants.{MAX_PIECE}
use Rattle.nb_turns.specs.declared.limits.TheConstants.{MAX_FAULTS}
use Rattle.nb_turns.specs.declared.line.Line.{Line}
use Rattle.nb_turns.specs.declared.mark.Mark.{Mark}
use Rattle.nb_turns.specs.declared.mark.Mark.TheVariants.{At}
use Rattle.nb_turns.specs.Lines.{entries_of, faults_of, lines_by}
use Rattle.nb_turns.specs.Callers.{AreTaken, answers_in, lines_since, own_lines, Turned}
use Rattle.nb_turns.specs.Laws.{AreApart, IsWorn}
use Rattle.nb_turn.specs.declared.chronicle.View.{View}
use Rattle.nb_turn.specs.Views.{first_sees}
use Rattle.nb_vault.specs.declared.origin.Origin.{Origin}
use Rattle.nb_session.specs.declared.ended.TheConstants.{MOST_FRAMES}
use Rattle.nb_session.specs.declared.ended.SessionEnd.{SessionEnd}
use Rattle.nb_session.specs.declared.ended.SessionEnd.TheVariants.{Clean, NoMemory, Cut, BadFrame, Spent}
use Rattle.nb_session.specs.Session.{Session, TurnsAt, frames_in, house_at}
use Rattle.nb_frame.specs.Faults.{placed}

-- the limit of a session in numbers, and how many bytes each of its reads asks for
abbrev pub LimitsAre : Type 0
LimitsAre = (MOST_FRAMES ≡ 10000) × (MAX_PIECE ≡ 65536)

-- there are as many moments and as many marks as frames were answered, and no more than a session answers
pub record Counts (answered : List Frame) (moments : List ℕ) (marks : List Mark) : Type 0 where
  pub moments_are : length moments ≡ length answered
  pub marks_are : length marks ≡ length answered
  pub most : length answered ≤ MOST_FRAMES

-- so it is of every session
abbrev pub AsManyMarks : {D : Type 0} → DiskTells D → Type 0
AsManyMarks {D} tells =
    (by : ℕ) (v w : View Origin Line) (old new : LinkSeen) (clock clock' : Option (List ℕ)) (moments : List ℕ) (marks : List Mark) (end : SessionEnd)
    → (s : Session tells by v w old new clock clock' moments marks end) → Counts (frames_in s.turns) moments marks

-- what the lines that the pass has seen tell of a session with these marks
pub record SeenAs {D : Type 0} (tells : DiskTells D) (by : ℕ) (v w : View Origin Line) (old new : LinkSeen) (clock clock' : Option (List ℕ)) (moments : List ℕ) (marks : List Mark) (end : SessionEnd) (s : Session tells by v w old new clock clock' moments marks end) : Type 0 where
  -- what the pass had seen stays, and the lines of its turns and of others come behind it
  pub seen_grows : w.seen ≡ v.seen ++ lines_since s.turns
  pub count_grows : length v.seen ≤ length w.seen
  -- its own lines among these are those of its turns, in order, and nothing else
  pub own_alone : lines_by by (lines_since s.turns) ≡ own_lines s.turns
  pub own_grow : lines_by by w.seen ≡ lines_by by v.seen ++ own_lines s.turns
  -- each verdict was taken over the first entries of those that the pass has seen, as many as the place that its mark tells and no fewer
  -- than the pass had seen before; its entry is the next one there; and places never fall, and are above it behind an entry
  pub places_stand : AreTaken (house_at s.origin) (entries_of s.origin.entries w.seen) (length (entries_of s.origin.entries v.seen)) (answers_in (house_at s.origin) s.turns)
  -- where a mark says that too many turns failed, exactly so many faults are told
  pub worn_stands : AllByRecursion (λ (mark : Mark). IsWorn mark → faults_of w.seen ≡ MAX_FAULTS) marks
  -- the lines of one turn have one number, and those of different turns, where both have lines, different ones
  pub turns_apart : AreApart by s.turns
  -- where the pass was the last to see all its lines, it is so again, and the passes joined into it are as they were
  pub parts_stand : v.parts ≡ first_sees v.seen v.parts → w.parts ≡ first_sees w.seen v.parts

-- so it is of every session
abbrev pub LinesTell : {D : Type 0} → DiskTells D → Type 0
LinesTell {D} tells =
    (by : ℕ) (v w : View Origin Line) (old new : LinkSeen) (clock clock' : Option (List ℕ)) (moments : List ℕ) (marks : List Mark) (end : SessionEnd)
    → (s : Session tells by v w old new clock clock' moments marks end) → SeenAs tells by v w old new clock clock' moments marks end s

-- a request was decided
abbrev pub IsDecided : Mark → Type 0
IsDecided (At place) = Unit {0}
IsDecided other = ⊥

-- the link gives these bytes, and then ends; it does not fail
pub record GivesBytes (old new : LinkSeen) (bytes : List ℕ) : Type 0 where
  pub left : old.left ≡ Some bytes
  pub reads : Rose old.read_faults new.read_faults → ⊥
  pub writes : Rose old.write_faults new.write_faults → ⊥

-- the end of a session by the number of all bytes, by that of the bytes of their frames, and by what stands behind these
abbrev pub EndsBy : ℕ → ℕ → Front → SessionEnd → Type 0
EndsBy count taken Empty end = end ≡ Clean
EndsBy count taken Partial end = end ≡ Cut count
EndsBy count taken (Bad fault) end = end ≡ BadFrame (placed taken fault)
EndsBy count taken (Whole f rest) end = ⊥

-- these bytes are these frames and this rest, the first of them were answered, and the session ended so: there was no memory; or there
-- were at least as many frames as a session answers, and as many were answered; or there were fewer, and all were answered
abbrev pub EndsOver : List ℕ → List Frame → List ℕ → List Frame → SessionEnd → Type 0
EndsOver bytes frames rest answered end =
    (end ≡ NoMemory)
    ⊎ (((MOST_FRAMES ≤ length frames) × (answered ≡ take MOST_FRAMES frames) × (end ≡ Spent))
    ⊎ ((length frames < MOST_FRAMES) × (answered ≡ frames) × EndsBy (length bytes) (length (flat_map frame frames)) (front_of rest) end))

-- so ends every session over such a link
abbrev pub EndsExactly : {D : Type 0} → DiskTells D → Type 0
EndsExactly {D} tells =
    (by : ℕ) (v w : View Origin Line) (old new : LinkSeen) (clock clock' : Option (List ℕ)) (moments : List ℕ) (marks : List Mark) (end : SessionEnd) (bytes : List ℕ) (frames : List Frame) (rest : List ℕ)
    → (s : Session tells by v w old new clock clock' moments marks end) → GivesBytes old new bytes → Splits bytes frames rest → EndsOver bytes frames rest (frames_in s.turns) end

-- the link gives these frames, fewer than a session answers, and then ends
pub record GivesFrames (old new : LinkSeen) (frames : List Frame) : Type 0 where
  pub gives : GivesBytes old new (flat_map frame frames)
  pub lawful : AllByRecursion IsFrame frames
  pub few : length frames < MOST_FRAMES

-- none of these turns failed, and the lines that were seen last do not tell so many faults that no turn is taken any more
pub record NoFaults (turns : List Turned) (last : List Line) : Type 0 where
  pub none : faults_of (own_lines turns) ≡ 0
  pub few : faults_of last < MAX_FAULTS

-- the session ended with the link, and these frames, no fewer and no more, were answered, each by a verdict
pub record AnswersEach (answered frames : List Frame) (marks : List Mark) (end : SessionEnd) : Type 0 where
  pub clean : end ≡ Clean
  pub all : answered ≡ frames
  pub decided : AllByRecursion IsDecided marks

-- a session over such a link, where none of its turns fails and the vault is not worn, answers all its frames, or had no memory to begin with
abbrev pub Completes : {D : Type 0} → DiskTells D → Type 0
Completes {D} tells =
    (by : ℕ) (v w : View Origin Line) (old new : LinkSeen) (clock clock' : Option (List ℕ)) (moments : List ℕ) (marks : List Mark) (end : SessionEnd) (frames : List Frame)
    → (s : Session tells by v w old new clock clock' moments marks end) → GivesFrames old new frames → NoFaults s.turns w.seen
    → (end ≡ NoMemory) ⊎ AnswersEach (frames_in s.turns) frames marks end

-- the disk's count of faults rose in none of these turns
abbrev pub NoneRose : {D : Type 0} → (tells : DiskTells D) (by : ℕ) (v : View Origin Line) (turns : List Turned) (w : View Origin Line) → TurnsAt tells by v turns w → Type 0
NoneRose tells by v [] w at = Unit {0}
NoneRose tells by v (turn ∷ more) w at = (Rose (tells.faults at.1.asks.old.disk) (tells.faults at.1.asks.new.disk) → ⊥) × NoneRose tells by at.0 more w at.2

-- a session over such a link answers all its frames, or had no memory to begin with, where the disk's count rose in none of its turns and the
-- vault is not worn
abbrev pub CompletesWithDisk : {D : Type 0} → DiskTells D → Type 0
CompletesWithDisk {D} tells =
    (by : ℕ) (v w : View Origin Line) (old new : LinkSeen) (clock clock' : Option (List ℕ)) (moments : List ℕ) (marks : List Mark) (end : SessionEnd) (frames : List Frame)
    → (s : Session tells by v w old new clock clock' moments marks end) → GivesFrames old new frames → NoneRose tells by v s.turns w s.at_desk → faults_of w.seen < MAX_FAULTS
    → (end ≡ NoMemory) ⊎ AnswersEach (frames_in s.turns) frames marks end
