-- What holds of every record and acknowledgement, of every list of events, and of what `follow` does.
use Rattle.std.specs.Prelude.{◌≡◌, ◌≢◌, ◌⊎◌, ℕ, ◌+◌, ◌<◌, ◌≤◌, ◌^◌, Result, Err, Bool, List, [], ◌∷◌, ◌++◌, length, map, codes, Some, Ok, slice_get}
use Rattle.std.specs.List.{AllByRecursion}
use Rattle.nb_units.specs.Frames.{AreBytes, Frame}
use Rattle.nb_units.specs.declared.charter.Charter.{Charter}
use Rattle.nb_port.specs.Tells.{DiskTells}
use Rattle.nb_entry.specs.declared.entry.Entry.{Entry}
use Rattle.nb_entry.specs.Spelling.{IsEntry}
use Rattle.nb_book.specs.Legal.{LegalUnder}
use Rattle.nb_journal.specs.Time.{LeavesOnly}
use Rattle.nb_escrow.specs.Head.{head_of}
use Rattle.nb_turns.specs.declared.mark.Mark.{Mark}
use Rattle.nb_turns.specs.declared.mark.Mark.TheVariants.{Fault}
use Rattle.nb_turns.specs.declared.limits.TheConstants.{MAX_FAULTS}
use Rattle.nb_turns.specs.Turns.{Answered, Request, State, last_state}
use Rattle.nb_vault.specs.declared.taking.TakeIn.{TakeIn}
use Rattle.nb_vault.specs.declared.taking.TakeIn.TheVariants as takes
use Rattle.nb_vault.specs.Opens.{VaultOpensAs, WholeOpens}
use Rattle.nb_vault.specs.Vaults.{Chronicled, StandsForState, state_of}
use Rattle.nb_standby.specs.declared.acknowledged.Acknowledged.{Acknowledged}
use Rattle.nb_standby.specs.declared.acknowledged.TheConstants.{ACKNOWLEDGE_LABEL}
use Rattle.nb_standby.specs.declared.code.TheConstants.{TAKEN, SAME, OTHER, AHEAD, BAD_TAG, BAD_RECORD, ILLEGAL, DISK_FAULT, WORN}
use Rattle.nb_standby.specs.declared.limits.TheConstants.{SHIPPED_FRAME, ACKNOWLEDGED_FRAME, PRIMARY, SHIPPED_ROOM, ACKNOWLEDGED_ROOM}
use Rattle.nb_standby.specs.declared.shipped.Shipped.{Shipped}
use Rattle.nb_standby.specs.declared.shipped.TheConstants.{SHIP_LABEL}
use Rattle.nb_standby.specs.Answering.{AcknowledgesAll, acknowledgement, record_in}
use Rattle.nb_standby.specs.Following.{FollowsAs, code_of, house_key}
use Rattle.nb_standby.specs.Reading.{shipped_of, acknowledged_of}
use Rattle.nb_standby.specs.Spelling.{IsShipped, ship_tag, shipped_bytes, shipped_frames, signed, IsAcknowledged, acknowledged_bytes}
use Rattle.nb_standby.specs.World.{BeginsWith, Delivers, Event, Happens, IsFront, Starts, Steps, World, restarted}

-- ---- layouts

-- what was spelled of a record is read as that record
abbrev pub ShippedReadsBack : Type 0
ShippedReadsBack = (r : Shipped) → IsShipped r → shipped_of (shipped_bytes r) ≡ Ok r

-- what was read as a record is spelled as those bytes, and is within its limits
abbrev pub ShippedSpellsBack : Type 0
ShippedSpellsBack = (bytes : List ℕ) (r : Shipped) → AreBytes bytes → shipped_of bytes ≡ Ok r → IsShipped r × (bytes ≡ shipped_bytes r)

-- what was spelled of an acknowledgement is read as that one
abbrev pub AcknowledgedReadsBack : Type 0
AcknowledgedReadsBack = (a : Acknowledged) → IsAcknowledged a → acknowledged_of (acknowledged_bytes a) ≡ Ok a

-- what was read as an acknowledgement is spelled as those bytes, and is within its limits
abbrev pub AcknowledgedSpellsBack : Type 0
AcknowledgedSpellsBack = (bytes : List ℕ) (a : Acknowledged) → AreBytes bytes → acknowledged_of bytes ≡ Ok a → IsAcknowledged a × (bytes ≡ acknowledged_bytes a)

-- the kinds of frames, the most bytes of a record's frame and those of an acknowledgement's, the codes, who a primary is in a standby's lines, and the
-- labels in texts
abbrev pub StandbyLimitsAre : Type 0
StandbyLimitsAre =
    (SHIPPED_FRAME ≡ 1) × (ACKNOWLEDGED_FRAME ≡ 2) × (SHIPPED_ROOM ≡ 173) × (ACKNOWLEDGED_ROOM ≡ 49)
    × (TAKEN ∷ SAME ∷ OTHER ∷ AHEAD ∷ BAD_TAG ∷ BAD_RECORD ∷ ILLEGAL ∷ DISK_FAULT ∷ WORN ∷ [] ≡ 0 ∷ 1 ∷ 2 ∷ 3 ∷ 4 ∷ 5 ∷ 6 ∷ 7 ∷ 8 ∷ [])
    × (PRIMARY ≡ 0) × (SHIP_LABEL ≡ codes "ship") × (ACKNOWLEDGE_LABEL ≡ codes "ackn")

-- ---- every list of events

-- in each world that comes of any events the standby's list is a front of the primary's, and so it is with what is in doubt, where it began so, with nothing
-- in doubt: also behind a stop, which is one of the events
abbrev pub StaysFront : Type 0
StaysFront = (charter : Charter) (cap : ℕ) (first : World) (events : List Event) (worlds : List World)
    → Starts first → Happens charter cap first events worlds → AllByRecursion IsFront (first ∷ worlds)

-- each world that comes of any events begins with the entries that its standby had: a stop takes none of them away
abbrev pub EntriesStay : Type 0
EntriesStay = (charter : Charter) (cap : ℕ) (first : World) (events : List Event) (worlds : List World)
    → Happens charter cap first events worlds → AllByRecursion (λ (world : World). BeginsWith world.standby.entries first.standby.entries) worlds

-- a record that is taken in at a number of entries: behind each later event, a stop too, so many stand
abbrev pub TakenStays : Type 0
TakenStays = (charter : Charter) (cap : ℕ) (before first : World) (k n : ℕ) (events : List Event) (worlds : List World)
    → Steps charter cap before (Delivers k takes.Taken) first → n ≡ length first.standby.entries → Happens charter cap first events worlds
    → (first.standby.doubt ≡ []) × AllByRecursion (λ (world : World). n ≤ length world.standby.entries) worlds

-- ---- follow

-- for the record of an entry that a primary of the same house shipped, `follow` is an event of each world that has shipped it and whose standby is in the
-- state of that vault: it is delivered, and the code tells how it was taken in
abbrev pub FollowIsStep : {D : Type 0} → DiskTells D → Type 0
FollowIsStep {D} tells = (world : World) (k : ℕ) (old new : Chronicled D) (place : ℕ) (e : Entry) (code : ℕ) → place < 2 ^ 64 → IsEntry e
    → slice_get world.sent k ≡ Some (record { place = place; entry = e }) → world.standby ≡ state_of old
    → FollowsAs tells old new (shipped_of (shipped_bytes (signed (house_key old) place e))) code
    → (how : TakeIn) × (code ≡ code_of how)
    × Steps old.origin.charter old.origin.cap world (Delivers k how) (record { primary = world.primary; sent = world.sent; standby = state_of new })

-- a vault was opened over a disk with this image
pub record OpensOver {D : Type 0} (tells : DiskTells D) (image : List ℕ) (opened : Chronicled D) : Type 0 where
  pub disk : D
  pub content : tells.content disk ≡ Some image
  pub opens : VaultOpensAs tells disk opened
  pub whole : WholeOpens (tells.content disk) (Ok opened)

-- it is the other one behind a stop, with the same charter and cap: what was in doubt is there, or it is not
pub record Restarts {D : Type 0} (old opened : Chronicled D) : Type 0 where
  pub kept : Bool
  pub state_is : state_of opened ≡ restarted (state_of old) kept
  pub charter : opened.origin.charter ≡ old.origin.charter
  pub cap : opened.origin.cap ≡ old.origin.cap

-- so it is where a vault is opened over an image that stands for the other one
abbrev pub StopIsStep : {D : Type 0} → DiskTells D → Type 0
StopIsStep {D} tells = (old opened : Chronicled D) (image : List ℕ) → StandsForState old image → OpensOver tells image opened → Restarts old opened

-- a stop within a call of `follow`, or behind it, leaves an image over which a vault opens as the one before the call behind a stop, or as the one behind it
abbrev pub StopInFollowIsStep : {D : Type 0} → DiskTells D → Type 0
StopInFollowIsStep {D} tells = (old new opened : Chronicled D) (image : List ℕ)
    → LeavesOnly tells old.disk new.disk (λ c. StandsForState old c ⊎ StandsForState new c)
    → tells.left new.disk (tells.moment old.disk) image → OpensOver tells image opened → Restarts old opened ⊎ Restarts new opened

-- ---- whole runs of follow

-- where a frame spells a record with the tag of this key, the world has shipped that one
abbrev pub IsShippedIn : List ℕ → World → Request → Type 0
IsShippedIn key world request = (r : Shipped) → record_in request ≡ Ok r → r.tag ≡ ship_tag key r.place r.entry
    → (k : ℕ) × (slice_get world.sent k ≡ Some (record { place = r.place; entry = r.entry }))

-- each frame is so of the world's house
abbrev pub AreShippedIn : Charter → World → List Answered → Type 0
AreShippedIn charter world answered = AllByRecursion (λ (a : Answered). IsShippedIn (head_of charter).house world a.request) answered

-- what was read of a frame is no record of the house, which its code tells, and nothing changes
abbrev pub IsPassed : List ℕ → World → Result Shipped ℕ → ℕ → World → Type 0
IsPassed key world (Err place) code next = (code ≡ BAD_RECORD) × (next ≡ world)
IsPassed key world (Ok r) code next = (r.tag ≢ ship_tag key r.place r.entry) × (code ≡ BAD_TAG) × (next ≡ world)

-- it is a record that the world has shipped, which is delivered, and its code tells how it was taken in
pub record IsDelivered (charter : Charter) (cap : ℕ) (world : World) (read : Result Shipped ℕ) (code : ℕ) (next : World) : Type 0 where
  pub shipped : Shipped
  pub spelled : read ≡ Ok shipped
  pub signed : shipped.tag ≡ ship_tag (head_of charter).house shipped.place shipped.entry
  pub number : ℕ
  pub sent : slice_get world.sent number ≡ Some (record { place = shipped.place; entry = shipped.entry })
  pub how : TakeIn
  pub code_is : code ≡ code_of how
  pub step : Steps charter cap world (Delivers number how) next

-- the standby of the world heard the frame and acknowledged it: the code, and how many entries stand then
pub record Hears (charter : Charter) (cap : ℕ) (world : World) (a : Answered) (next : World) : Type 0 where
  pub code : ℕ
  pub reply_is : a.reply ≡ acknowledgement (head_of charter).house code (length next.standby.entries)
  pub came : IsPassed (head_of charter).house world (record_in a.request) code next ⊎ IsDelivered charter cap world (record_in a.request) code next

-- it heard these frames, one after another, and the world came to these
abbrev pub HearsAll : Charter → ℕ → World → List Answered → List World → Type 0
HearsAll charter cap world [] [] = Unit {0}
HearsAll charter cap world (a ∷ answered) (next ∷ worlds) = Hears charter cap world a next × HearsAll charter cap next answered worlds
HearsAll charter cap world [] (next ∷ worlds) = ⊥
HearsAll charter cap world (a ∷ answered) [] = ⊥

-- the world where the standby is in this state
abbrev pub with_standby : World → State → World
with_standby world state = record { primary = world.primary; sent = world.sent; standby = state }

-- a whole run of `follow` is one of each world that has shipped its records: each frame is a delivery of the record that it spells, or is passed over
abbrev pub FollowIsDeliveries : Type 0
FollowIsDeliveries = (charter : Charter) (cap : ℕ) (world : World) (answered : List Answered) (states : List State)
    → AreShippedIn charter world answered → AcknowledgesAll charter cap world.standby answered states
    → HearsAll charter cap world answered (map (with_standby world) states)

-- where the standby began as a front of the primary, with nothing in doubt, it is one in each state of the run, and so it is with what is in doubt
abbrev pub FollowedStaysFront : Type 0
FollowedStaysFront = (charter : Charter) (cap : ℕ) (world : World) (answered : List Answered) (states : List State)
    → Starts world → AreShippedIn charter world answered → AcknowledgesAll charter cap world.standby answered states
    → AllByRecursion (λ (state : State). BeginsWith world.primary state.entries × BeginsWith world.primary (state.entries ++ state.doubt)) states

-- the frame that was answered
abbrev pub frame_in : Answered → Frame
frame_in a = record { kind = a.request.kind; body = a.request.body }

-- the mark tells of no failure of the disk
abbrev pub IsNoFault : Mark → Type 0
IsNoFault (Fault before after) = ⊥
IsNoFault other = Unit {0}

-- from a state in which nothing is in doubt, and where the disk never fails, the frames alone say which states a standby comes to and what it answers: no
-- clock has a part in it
abbrev pub OneAcknowledging : Type 0
OneAcknowledging = (charter : Charter) (cap : ℕ) (first : State) (answered others : List Answered) (states ends : List State)
    → first.doubt ≡ [] → map frame_in answered ≡ map frame_in others
    → AllByRecursion (λ (a : Answered). IsNoFault a.mark) answered → AllByRecursion (λ (a : Answered). IsNoFault a.mark) others
    → AcknowledgesAll charter cap first answered states → AcknowledgesAll charter cap first others ends
    → (states ≡ ends) × (map (λ (a : Answered). a.reply) answered ≡ map (λ (a : Answered). a.reply) others)

-- each was acknowledged as taken in, the first of them at this place
abbrev pub AreTaken : List ℕ → ℕ → List Answered → Type 0
AreTaken key place [] = Unit {0}
AreTaken key place (a ∷ answered) = (a.reply ≡ acknowledgement key TAKEN (place + 1)) × AreTaken key (place + 1) answered

-- a standby with nothing in doubt, whose disk never fails, takes in every entry that comes next in a list which its journal may have, where they reach it in the
-- frames that a house with its key ships, and then has all
abbrev pub TakesAll : Type 0
TakesAll = (charter : Charter) (cap : ℕ) (first : State) (entries : List Entry) (answered : List Answered) (states : List State)
    → first.doubt ≡ [] → first.faults < MAX_FAULTS → AllByRecursion IsEntry entries
    → LegalUnder charter.version charter.rate (first.entries ++ entries) → length (first.entries ++ entries) ≤ cap → cap < 2 ^ 64
    → map frame_in answered ≡ shipped_frames (head_of charter).house (length first.entries) entries
    → AllByRecursion (λ (a : Answered). IsNoFault a.mark) answered → AcknowledgesAll charter cap first answered states
    → AreTaken (head_of charter).house (length first.entries) answered
    × (last_state first states ≡ record { entries = first.entries ++ entries; doubt = []; faults = first.faults })
