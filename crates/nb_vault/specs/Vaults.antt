-- What a vault is seen as, what every vault keeps, and how it answers.
use Rattle.std.specs.Prelude.{◌≡◌, ◌≢◌, ◌⊎◌, ℕ, ◌+◌, ◌*◌, ◌≤◌, Bool, true, false, List, [], ◌∷◌, ◌++◌, length, IfSome, if◌then◌else◌}
use Rattle.std.proofs.Common.{inl, inr}
use Rattle.nb_port.specs.Tells.{DiskTells}
use Rattle.nb_port.specs.Faults.{Rose, Backed}
use Rattle.nb_entry.specs.declared.entry.Entry.{Entry}
use Rattle.nb_book.specs.Legal.{LegalUnder}
use Rattle.nb_entry.specs.Spelling.{entries_bytes}
use Rattle.nb_journal.specs.Layout.{AreTerms, front_bytes, up_to_gate}
use Rattle.nb_journal.specs.Stands.{Stands, BeforeOrAfter}
use Rattle.nb_journal.specs.Time.{LeavesOnly, Unwritten}
use Rattle.nb_escrow.specs.Head.{head_of}
use Rattle.nb_turns.specs.declared.limits.TheConstants.{MAX_FAULTS, MAX_REQUESTS}
use Rattle.nb_turns.specs.declared.line.Line.{Line}
use Rattle.nb_turns.specs.Turns.{Request, House, State, Outcome, Decides, Fails, Refuses, Unsettled, Doubts, Turn, decided, places, recorded, replies}
use Rattle.nb_turns.specs.Lines.{AddsLines, DoubtedLines, UnsettledLines, IsClosed, NeverFall, Sound, entries_of, failures_in, faults_of, next_turn, open_doubt}
use Rattle.nb_turns.specs.Laws.{AreLegal, IsBalanced}
use Rattle.nb_vault.specs.declared.answer.Answer.{Answer}
use Rattle.nb_vault.specs.declared.answer.Answer.TheVariants as one
use Rattle.nb_vault.specs.declared.answer.AnswerAll.{AnswerAll}
use Rattle.nb_vault.specs.declared.answer.AnswerAll.TheVariants as all
use Rattle.nb_vault.specs.declared.origin.Origin.{Origin}
use Rattle.nb_vault.specs.Holdings.{Joins, StandsFor, StandsForEither, WritesItem, TearsItem}
use Rattle.nb_vault.specs.Rules.{house_of}

-- what it was opened with, what was done since, whether an item is in doubt, and the disk
pub record Chronicled (D : Type 0) : Type 0 where
  pub origin : Origin
  pub lines : List Line
  pub stale : Bool
  pub disk : D

-- the entries that are recorded
abbrev pub entries_in : {D : Type 0} → Chronicled D → List Entry
entries_in v = entries_of v.origin.entries v.lines

-- the entries in doubt, if an item is
abbrev pub doubt_in : {D : Type 0} → Chronicled D → List Entry
doubt_in v = if v.stale then open_doubt v.lines else []

-- the state of the house
abbrev pub state_of : {D : Type 0} → Chronicled D → State
state_of v = record { entries = entries_in v; doubt = doubt_in v; faults = faults_of v.lines }

-- the house that it is
abbrev pub house_in : {D : Type 0} → Chronicled D → House
house_in v = house_of (head_of v.origin.charter) v.origin.cap

-- an image stands for the entries, without those in doubt or with them
abbrev pub StandsForState : {D : Type 0} → Chronicled D → List ℕ → Type 0
StandsForState v image = StandsForEither v.origin.charter v.origin.cap (entries_in v) (doubt_in v) image

-- the most lines that a vault with this cap ever has: one for each entry, and for each turn that fails one for each entry in doubt and
-- one for the fault
abbrev pub most_lines : ℕ → ℕ
most_lines cap = cap + (MAX_REQUESTS + 1) * MAX_FAULTS

-- what every vault keeps
pub record Keeps {D : Type 0} (tells : DiskTells D) (v : Chronicled D) : Type 0 where
  -- its list is Legal under its version and its rate, also with the entries in doubt, and within the cap
  pub legal : LegalUnder v.origin.charter.version v.origin.charter.rate (entries_in v ++ doubt_in v)
  pub within : length (entries_in v ++ doubt_in v) ≤ v.origin.cap
  -- each order is settled once among the entries, their money is neither made nor lost, and cap and charter are such as a journal has
  pub money : IsBalanced (entries_in v)
  pub terms : AreTerms v.origin.cap v.origin.charter
  -- it is what its content stands for, and what a stop leaves
  pub bytes : IfSome (tells.content v.disk) (StandsForState v)
  pub images : (image : List ℕ) → tells.allowed v.disk image → StandsForState v image
  -- where it is stale entries are in doubt, as many as a turn may record
  pub doubt : v.stale ≡ true → doubt_in v ≢ []
  pub most : length (doubt_in v) ≤ MAX_REQUESTS
  -- its lines adopt what was in doubt, their faults are the disk's, their turns never fall, and few are faults
  pub sound : Sound v.lines
  pub backed : Backed v.origin.faults (failures_in v.lines) (tells.faults v.disk)
  pub turns : NeverFall v.lines
  pub few : faults_of v.lines ≤ MAX_FAULTS
  -- the newest is none of a doubt, and what they tell is Legal, also with what was last in doubt, which is as many at most
  pub closed : IsClosed v.lines
  pub lawful : AreLegal v.origin.cap v.origin.entries v.lines
  pub open_most : length (open_doubt v.lines) ≤ MAX_REQUESTS
  -- there is one for each entry recorded since the vault was opened, and for each fault at most those of a doubt and its own
  pub told : length v.lines + length v.origin.entries ≤ length (entries_in v) + (MAX_REQUESTS + 1) * faults_of v.lines

-- so many lines are enough, and in numbers these are
abbrev pub LinesFit : {D : Type 0} → DiskTells D → Type 0
LinesFit {D} tells = ((v : Chronicled D) → Keeps tells v → length v.lines ≤ most_lines v.origin.cap) × ((cap : ℕ) → most_lines cap ≡ cap + 33000)

-- the items of a content, or, where one more is in doubt, these without it or with it
abbrev pub HoldsItems : Bool → List ℕ → List (List ℕ) → List ℕ → List ℕ → Type 0
HoldsItems false front items item image = Stands front items image
HoldsItems true front items item image = BeforeOrAfter front items item image

-- the gate behind the items of all entries that are recorded is at this place, and the content has these items, and where entries are in doubt
-- these alone or with theirs
pub record GateIsAt {D : Type 0} (tells : DiskTells D) (v : Chronicled D) (gate : ℕ) : Type 0 where
  pub items : List (List ℕ)
  pub joins : Joins items (entries_in v)
  pub place : gate ≡ length (up_to_gate (front_bytes v.origin.cap v.origin.charter) items)
  pub stands : IfSome (tells.content v.disk) (HoldsItems v.stale (front_bytes v.origin.cap v.origin.charter) items (entries_bytes (doubt_in v)))

-- ---- answering

-- one gate opens all that the turn records over these entries: there is the disk behind settling, up to which a stop leaves what stands for
-- the state before the turn, and since which it leaves what stands for the entries alone, or with all that is recorded
pub record OneGateOpens {D : Type 0} (house : House) (tells : DiskTells D) (old new : Chronicled D) (requests : List Request) (over : List Entry) : Type 0 where
  pub settled : D
  pub before : LeavesOnly tells old.disk settled (StandsForState old)
  pub since : LeavesOnly tells settled new.disk (StandsForEither old.origin.charter old.origin.cap over (recorded house over requests))

-- the disk in a turn that decided over these entries: its content stood for them, and what the verdicts record is appended as one item.
-- Where they record nothing, nothing is written
pub record WritesTurn {D : Type 0} (house : House) (tells : DiskTells D) (old new : Chronicled D) (requests : List Request) (over : List Entry) : Type 0 where
  pub told : IfSome (tells.content old.disk) (StandsFor old.origin.charter old.origin.cap over)
  pub written : WritesItem old.origin.charter old.origin.cap over (recorded house over requests) (tells.content old.disk) (tells.content new.disk)
  pub idle : recorded house over requests ≡ [] → Unwritten tells old.disk new.disk
  pub gate : OneGateOpens house tells old new requests over

-- the disk in a turn whose item could not be made durable: its content stood for the entries that the turn was decided over, and bytes
-- in the range of such an item may have changed
pub record TearsTurn {D : Type 0} (house : House) (tells : DiskTells D) (old new : Chronicled D) (requests : List Request) (over : List Entry) : Type 0 where
  pub told : IfSome (tells.content old.disk) (StandsFor old.origin.charter old.origin.cap over)
  pub written : TearsItem old.origin.charter old.origin.cap over (recorded house over requests) (tells.content old.disk) (tells.content new.disk)
  pub gate : OneGateOpens house tells old new requests over

-- the disk in a turn that could not settle what was in doubt, told from this count on: nothing is written
pub record LeavesTurn {D : Type 0} (tells : DiskTells D) (old new : Chronicled D) (before : ℕ) : Type 0 where
  pub from : before ≡ tells.faults old.disk
  pub nothing : Unwritten tells old.disk new.disk

-- how a turn failed: its state, its lines and the disk tell one and the same. What was in doubt could not be settled, and then there is
-- the line of the fault alone; or what the verdicts over these entries record could not be made durable, and then there is a line of a
-- doubt for each of it
abbrev pub FailsOnDisk : {D : Type 0} → (house : House) (tells : DiskTells D) (old new : Chronicled D) (by : ℕ) (requests : List Request) (before after : ℕ) (added : List Line)
    → Unsettled (state_of old) (state_of new) ⊎ Doubts house (state_of old) requests (state_of new)
    → UnsettledLines by (next_turn old.lines) old.lines before after added ⊎ DoubtedLines house old.origin.entries by (next_turn old.lines) old.lines requests before after added
    → Type 0
FailsOnDisk house tells old new by requests before after added (inl unsettled) (inl lines) = LeavesTurn tells old new before
FailsOnDisk house tells old new by requests before after added (inr doubts) (inr lines) = (lines.over ≡ doubts.over) × TearsTurn house tells old new requests doubts.over
FailsOnDisk house tells old new by requests before after added (inl unsettled) (inr lines) = ⊥
FailsOnDisk house tells old new by requests before after added (inr doubts) (inl lines) = ⊥

-- what a turn that went so did to the disk, by what its state and its lines tell of it
abbrev pub OnDisk : {D : Type 0} → (house : House) (tells : DiskTells D) (old new : Chronicled D) (by : ℕ) (requests : List Request) (added : List Line) (outcome : Outcome)
    → Turn house (state_of old) requests outcome (state_of new) → AddsLines house old.origin.entries by (next_turn old.lines) old.lines requests outcome added → Type 0
OnDisk house tells old new by requests added (Decides over) turn lines = WritesTurn house tells old new requests over
OnDisk house tells old new by requests added (Fails before after) turn lines = FailsOnDisk house tells old new by requests before after added turn.1 lines.1
OnDisk house tells old new by requests added Refuses turn lines = new ≡ old

-- what is handed out of a turn that went so: the places and the replies of requests that were decided, and else nothing
abbrev pub handed_places : House → List Request → Outcome → List ℕ
handed_places house requests (Decides over) = places (decided house over requests)
handed_places house requests other = []

-- the replies that are handed out of a turn that went so
abbrev pub handed_replies : House → List Request → Outcome → List ℕ
handed_replies house requests (Decides over) = replies (decided house over requests)
handed_replies house requests other = []

-- a turn by the rules of this house went so: from the vault before to the one behind it, with these places and replies handed out. Its lines
-- stand behind those before it, and are of who asked, under the next turn's number; state, lines and disk tell the same of it
pub record WentBy {D : Type 0} (house : House) (tells : DiskTells D) (old new : Chronicled D) (by : ℕ) (requests : List Request) (outcome : Outcome) (found : List ℕ) (out out' : List ℕ) : Type 0 where
  pub turn : Turn house (state_of old) requests outcome (state_of new)
  pub found_is : found ≡ handed_places house requests outcome
  pub out_is : out' ≡ out ++ handed_replies house requests outcome
  pub added : List Line
  pub behind : new.lines ≡ old.lines ++ added
  pub lines : AddsLines house old.origin.entries by (next_turn old.lines) old.lines requests outcome added
  pub disk : OnDisk house tells old new by requests added outcome turn lines

-- a turn of the house that the vault is went so
abbrev pub Went : {D : Type 0} → DiskTells D → Chronicled D → Chronicled D → ℕ → List Request → Outcome → List ℕ → List ℕ → List ℕ → Type 0
Went tells old new by requests outcome found out out' = WentBy (house_in old) tells old new by requests outcome found out out'

-- how a turn went, by the answer
abbrev pub TurnOf : {D : Type 0} → DiskTells D → Chronicled D → Chronicled D → ℕ → List Request → List ℕ → List ℕ → List ℕ → AnswerAll → Type 0
TurnOf tells old new by requests found out out' all.Answered = (over : List Entry) × Went tells old new by requests (Decides over) found out out'
TurnOf tells old new by requests found out out' (all.DiskFault before after) = Went tells old new by requests (Fails before after) found out out'
TurnOf tells old new by requests found out out' (all.Worn faults) = (faults ≡ MAX_FAULTS) × Went tells old new by requests Refuses found out out'

-- the places stand behind those before, as the replies do
abbrev pub TurnAll : {D : Type 0} → DiskTells D → Chronicled D → Chronicled D → ℕ → List Request → List ℕ → List ℕ → List ℕ → List ℕ → AnswerAll → Type 0
TurnAll tells old new by requests ats ats' out out' answer = (found : List ℕ) × (ats' ≡ ats ++ found) × TurnOf tells old new by requests found out out' answer

-- the answer to one request, as that to a turn
abbrev pub all_of : Answer → AnswerAll
all_of (one.Answered at) = all.Answered
all_of (one.DiskFault before after) = all.DiskFault before after
all_of (one.Worn faults) = all.Worn faults

-- and the places that it tells
abbrev pub place_in : Answer → List ℕ
place_in (one.Answered at) = at ∷ []
place_in other = []

-- each image that a stop leaves stands for the entries alone, and nothing is in doubt
pub record IsDurable {D : Type 0} (tells : DiskTells D) (v : Chronicled D) : Type 0 where
  pub fresh : v.stale ≡ false
  pub images : (image : List ℕ) → tells.allowed v.disk image → StandsFor v.origin.charter v.origin.cap (entries_in v) image

-- where it answered
abbrev pub DurableWhere : {D : Type 0} → DiskTells D → Chronicled D → AnswerAll → Type 0
DurableWhere tells new all.Answered = IsDurable tells new
DurableWhere tells new other = Unit {0}

-- where nothing was done the vault is as before, its disk too
abbrev pub SameWhere : {D : Type 0} → Chronicled D → Chronicled D → AnswerAll → Type 0
SameWhere old new (all.Worn faults) = new ≡ old
SameWhere old new other = Unit {0}

-- a fault is told with the disk's count at the end of the call, and with that at its start where nothing was in doubt
abbrev pub FaultWithin : {D : Type 0} → DiskTells D → Chronicled D → Chronicled D → AnswerAll → Type 0
FaultWithin tells old new (all.DiskFault before after) =
    (tells.faults old.disk ≤ before) × (old.stale ≡ false → before ≡ tells.faults old.disk) × Rose before after × (after ≡ tells.faults new.disk)
FaultWithin tells old new other = Unit {0}
