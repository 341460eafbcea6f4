-- What stays of a request that was answered, and of a record that was acknowledged.
use Rattle.std.specs.Prelude.{◌≡◌, ◌⊎◌, ℕ, ◌<◌, ◌≤◌, ◌^◌, Bool, List, ◌++◌, Ok, Some, length, take}
use Rattle.std.specs.List.{slice_get}
use Rattle.std.specs.Option.{option_to_list}
use Rattle.nb_units.specs.declared.charter.Charter.{Charter}
use Rattle.nb_port.specs.Tells.{DiskTells}
use Rattle.nb_entry.specs.declared.entry.Entry.{Entry}
use Rattle.nb_escrow.specs.Head.{head_of}
use Rattle.nb_journal.specs.Time.{LeavesOnly}
use Rattle.nb_vault.specs.Holdings.{StandsFor}
use Rattle.nb_vault.specs.Vaults.{Chronicled, state_of}
use Rattle.nb_turns.specs.declared.mark.Mark.TheVariants.{At}
use Rattle.nb_turns.specs.Turns.{Request, State, Answered, IsStateOf}
use Rattle.nb_turns.specs.Laws.{RunOfOnes}
use Rattle.nb_vault.specs.Rules.{house_of, house_rules}
use Rattle.nb_standby.specs.declared.code.TheConstants.{TAKEN, SAME}
use Rattle.nb_standby.specs.declared.shipped.Shipped.{Shipped}
use Rattle.nb_standby.specs.Answering.{AcknowledgesAll, acknowledgement, record_in}
use Rattle.nb_standby.specs.Laws.{OpensOver}
use Rattle.nb_standby.specs.Spelling.{ship_tag}
use Rattle.nb_standby.specs.World.{restarted}
use Rattle.nb_batch.specs.declared.answering.Answerer.{Answerer}
use Rattle.nb_batch.specs.Answering.{Goes}
use Rattle.nb_batch.specs.Batch.{GoesThrough, StandsInRun, last_disk}

-- the image stands for a list that begins with these entries
pub record StandsForMore (charter : Charter) (cap : ℕ) (entries : List Entry) (image : List ℕ) : Type 0 where
  pub later : List Entry
  pub stands : StandsFor charter cap (entries ++ later) image

-- a request was answered over so many entries: its reply is the verdict's over these, and its entry, where the verdict records one,
-- stands behind them. Each image that a stop at a moment since leaves of the last disk stands for a list that begins with all of them
pub record Stays {D : Type 0} (tells : DiskTells D) (charter : Charter) (cap : ℕ) (request : Request) (place : ℕ) (reply : List ℕ) (state : State) (disk last : D) : Type 0 where
  pub told : reply ≡ (house_rules (head_of charter) cap (take place state.entries) request).reply
  pub recorded : state.entries ≡ take place state.entries ++ option_to_list (house_rules (head_of charter) cap (take place state.entries) request).entry
  pub images : (image : List ℕ) → tells.left last (tells.moment disk) image → StandsForMore charter cap state.entries image

-- each image that a stop since opening leaves of the last disk stands for a list that begins with the entries at the start, whoever answers: what earlier
-- batches recorded stays
abbrev pub OpeningStays : {D : Type 0} → DiskTells D → Type 0
OpeningStays {D} tells =
    (by : Answerer) (charter : Charter) (cap : ℕ) (first : State) (opened : D) (answered : List Answered) (states : List State) (disks : List D)
    → Goes by charter cap first answered states → GoesThrough tells charter cap first opened states disks
    → (image : List ℕ) → tells.left (last_disk opened disks) (tells.moment opened) image → StandsForMore charter cap first.entries image

-- so it is of each turn of a batch that decided
abbrev pub AcknowledgedStays : {D : Type 0} → DiskTells D → Type 0
AcknowledgedStays {D} tells =
    (charter : Charter) (cap : ℕ) (first : State) (opened : D) (answered : List Answered) (states : List State) (disks : List D)
    → RunOfOnes (house_of (head_of charter) cap) first answered states → GoesThrough tells charter cap first opened states disks
    → (turn place : ℕ) (request : Request) (reply : List ℕ) (state : State) (disk : D)
    → slice_get answered turn ≡ Some (record { request = request; mark = At place; reply = reply })
    → slice_get states turn ≡ Some state → slice_get disks turn ≡ Some disk
    → Stays tells charter cap request place reply state disk (last_disk opened disks)

-- a record of the house that the frame spells stands at its place
pub record StandsSpelled (charter : Charter) (request : Request) (state : State) : Type 0 where
  pub shipped : Shipped
  pub spelled : record_in request ≡ Ok shipped
  pub signed : shipped.tag ≡ ship_tag (head_of charter).house shipped.place shipped.entry
  pub stands : slice_get state.entries shipped.place ≡ Some shipped.entry

-- a standby told this code, and that it has so many entries: so many it has then, and where it told that the record is taken in, or stood there, it stands.
-- Each image that a stop at a moment since leaves of the last disk stands for a list that begins with all of them
pub record StaysTold {D : Type 0} (tells : DiskTells D) (charter : Charter) (cap : ℕ) (request : Request) (code n : ℕ) (state : State) (disk last : D) : Type 0 where
  pub counted : n ≡ length state.entries
  pub taken : (code ≡ TAKEN) ⊎ (code ≡ SAME) → StandsSpelled charter request state
  pub images : (image : List ℕ) → tells.left last (tells.moment disk) image → StandsForMore charter cap state.entries image

-- a standby told this in a run: the bytes of one of its acknowledgements are of this code and this number, where the cap and the number have eight bytes
pub record ToldInRun {D : Type 0} (tells : DiskTells D) : Type 0 where
  pub charter : Charter
  pub cap : ℕ
  pub narrow : cap < 2 ^ 64
  -- the state and the disk at the start; the cap has room for its entries, also with those in doubt
  pub first : State
  pub opened : D
  pub within : length (first.entries ++ first.doubt) ≤ cap
  -- the frames that were acknowledged, and the state and the disk behind each of them
  pub answered : List Answered
  pub states : List State
  pub disks : List D
  pub acknowledges : AcknowledgesAll charter cap first answered states
  pub through : GoesThrough tells charter cap first opened states disks
  -- one of these frames, at this place among them, and the state and the disk behind it
  pub turn : ℕ
  pub one : Answered
  pub state : State
  pub disk : D
  pub one_is : slice_get answered turn ≡ Some one
  pub state_is : slice_get states turn ≡ Some state
  pub disk_is : slice_get disks turn ≡ Some disk
  -- what its reply tells: the code, and how many entries there are
  pub code : ℕ
  pub n : ℕ
  pub fits : n < 2 ^ 64
  pub reply_is : one.reply ≡ acknowledgement (head_of charter).house code n

-- so it is of all that a standby told in a run
abbrev pub ToldStays : {D : Type 0} → DiskTells D → Type 0
ToldStays {D} tells = (t : ToldInRun tells) → StaysTold tells t.charter t.cap t.one.request t.code t.n t.state t.disk (last_disk t.opened t.disks)

-- a vault that was opened is one of the states of a run, behind a stop: what was in doubt in it is there, or it is not
pub record RestartsInRun {D : Type 0} (charter : Charter) (cap : ℕ) (first : State) (states : List State) (opened : Chronicled D) : Type 0 where
  pub state : State
  pub is : IsStateOf first states state
  pub kept : Bool
  pub state_is : state_of opened ≡ restarted state kept
  pub charter_is : opened.origin.charter ≡ charter
  pub cap_is : opened.origin.cap ≡ cap

-- so it is where a stop at any moment of a batch left the image that it was opened over
abbrev pub StopInRunIsStep : {D : Type 0} → DiskTells D → Type 0
StopInRunIsStep {D} tells =
    (charter : Charter) (cap : ℕ) (first : State) (states : List State) (old new : D) (image : List ℕ) (opened : Chronicled D)
    → LeavesOnly tells old new (StandsInRun charter cap first states) → tells.left new (tells.moment old) image
    → OpensOver tells image opened → RestartsInRun charter cap first states opened
