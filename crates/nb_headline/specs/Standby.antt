-- What a primary, its standby and the commands over both come to together.
use Rattle.std.specs.Prelude.{◌≡◌, ◌⊎◌, ℕ, ◌+◌, ◌<◌, ◌≤◌, ◌^◌, List, [], ◌∷◌, length, map, drop, Option, Some, Ok, slice_get}
use Rattle.std.specs.List.{AllByRecursion}
use Rattle.std.specs.Io.KnownBytes.{Appends}
use Rattle.nb_units.specs.declared.charter.Charter.{Charter}
use Rattle.nb_port.specs.Tells.{DiskTells}
use Rattle.nb_entry.specs.declared.entry.Entry.{Entry}
use Rattle.nb_entry.specs.Spelling.{IsEntry}
use Rattle.nb_escrow.specs.Head.{head_of}
use Rattle.nb_turns.specs.Turns.{Answered, Request, State}
use Rattle.nb_standby.specs.declared.code.TheConstants.{TAKEN, SAME, OTHER}
use Rattle.nb_standby.specs.declared.shipped.Shipped.{Shipped}
use Rattle.nb_standby.specs.Answering.{AcknowledgesAll, acknowledgement, record_in}
use Rattle.nb_standby.specs.Laws.{AreShippedIn, frame_in}
use Rattle.nb_standby.specs.Spelling.{shipped_frames}
use Rattle.nb_standby.specs.World.{Event, Happens, Ships, Starts, World}
use Rattle.nb_batch.specs.Acknowledged.{ToldInRun}
use Rattle.nb_batch.specs.Batch.{last_disk}
use Rattle.nb_commands.specs.declared.ending.Ending.{Ending}
use Rattle.nb_commands.specs.declared.ending.TheConstants.{CLEAN}
use Rattle.nb_commands.specs.Promote.{PromoteIs, promoted_line}

-- ---- what a primary ships

-- the entries behind these places are shipped, one after another
abbrev pub ships : ℕ → List Entry → List Event
ships place [] = []
ships place (e ∷ entries) = Ships place ∷ ships (place + 1) entries

-- the last of these worlds
abbrev pub last_world : World → List World → World
last_world first [] = first
last_world first (next ∷ worlds) = last_world next worlds

-- a primary shipped its entries from a place on: behind these events nothing but what was ever shipped has changed, and frames that spell the records of these entries are
-- of what was shipped there
pub record ShipsAll (charter : Charter) (cap : ℕ) (world : World) (from : ℕ) : Type 0 where
  pub worlds : List World
  pub happens : Happens charter cap world (ships from (drop from world.primary)) worlds
  pub primary : (last_world world worlds).primary ≡ world.primary
  pub standby : (last_world world worlds).standby ≡ world.standby
  pub shipped : (answered : List Answered) → map frame_in answered ≡ shipped_frames (head_of charter).house from (drop from world.primary) → AreShippedIn charter (last_world world worlds) answered

-- each primary may: the frames that `ship` writes of its list are those of a world that has shipped them
abbrev pub ShipsAreShipped : Type 0
ShipsAreShipped = (charter : Charter) (cap : ℕ) (world : World) (from : ℕ) → AllByRecursion IsEntry world.primary → length world.primary < 2 ^ 64 → from ≤ length world.primary
    → ShipsAll charter cap world from

-- ---- what an acknowledgement shows

-- where the standby's list began as a front of its primary's within the cap, with nothing in doubt, no acknowledgement of a record of the primary's tells that another entry stands at its place: code 2 shows
-- that the two lists have parted
abbrev pub OtherIsNeverTold : Type 0
OtherIsNeverTold = (charter : Charter) (cap : ℕ) (world : World) (answered : List Answered) (states : List State)
    → cap < 2 ^ 64 → length world.standby.entries ≤ cap → Starts world → AreShippedIn charter world answered → AcknowledgesAll charter cap world.standby answered states
    → (turn n : ℕ) (one : Answered) → slice_get answered turn ≡ Some one → n < 2 ^ 64 → one.reply ≡ acknowledgement (head_of charter).house OTHER n → ⊥

-- ---- what promoting tells

-- the line of the number of these entries was sent. They are at least as many as an acknowledgement with this code told, and where it told its record taken in, or to stand, they
-- have it at its place
pub record TellsOf (sent sent' : Option (List ℕ)) (request : Request) (code n : ℕ) : Type 0 where
  pub entries : List Entry
  pub line : Appends sent sent' (promoted_line (length entries))
  pub least : n ≤ length entries
  pub taken : (code ≡ TAKEN) ⊎ (code ≡ SAME) → (r : Shipped) × (record_in request ≡ Ok r) × (slice_get entries r.place ≡ Some r.entry)

-- a standby acknowledged a frame; at some moment since it stopped, and a disk with what was left is promoted with status 0. That tells of all that was acknowledged
abbrev pub PromotedHasTold : {D : Type 0} → DiskTells D → Type 0
PromotedHasTold {D} tells =
    (t : ToldInRun tells) (image : List ℕ) → tells.left (last_disk t.opened t.disks) (tells.moment t.disk) image
    → (old new : D) (sent sent' : Option (List ℕ)) (ending : Ending) → tells.content old ≡ Some image → PromoteIs tells old new sent sent' ending → ending.status ≡ CLEAN
    → TellsOf sent sent' t.one.request t.code t.n
