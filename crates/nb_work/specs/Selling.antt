-- What a job of selling comes to.
use Rattle.std.specs.Prelude.{◌≡◌, ◌⊎◌, ℕ, ◌+◌, ◌≤◌, ◌<◌, List, [], ◌∷◌, length, map, Option, None, Some, IfSome, Ok, Err}
use Rattle.nb_units.specs.declared.charter.Charter.{Charter}
use Rattle.nb_port.specs.Tells.{DiskTells}
use Rattle.nb_port.specs.Faults.{Rose}
use Rattle.nb_link.specs.Link.{LinkSeen}
use Rattle.nb_link.specs.Port.{PortSeen}
use Rattle.nb_journal.specs.declared.journal.Journal.{Journal}
use Rattle.nb_journal.specs.declared.opening.OpenFault.{OpenFault}
use Rattle.nb_journal.specs.Layout.{front_bytes}
use Rattle.nb_journal.specs.Opening.{OpenFails}
use Rattle.nb_journal.specs.Reading.{Holds}
use Rattle.nb_journal.specs.States.{AtRest}
use Rattle.nb_journal.specs.Time.{Unwritten}
use Rattle.nb_price.specs.Products.{Product}
use Rattle.nb_groups.specs.Offers.{Tariff}
use Rattle.nb_stall.specs.Head.{stall_of}
use Rattle.nb_merchant.specs.Shop.{Shop, new_shop}
use Rattle.nb_merchant.specs.Keeping.{IsKept, restarted}
use Rattle.nb_merchant.specs.Laws.{kept_bytes}
use Rattle.nb_sell.specs.declared.ended.SellEnd.{SellEnd}
use Rattle.nb_sell.specs.declared.ended.SellEnd.TheVariants as ends
use Rattle.nb_sell.specs.Sold.{Around, around, Sold}
use Rattle.nb_server.specs.Served.{WorkerSeen, with_given, with_taken}
use Rattle.nb_commands.specs.declared.ending.Ending.{Ending}
use Rattle.nb_commands.specs.declared.ending.TheConstants.{CLEAN, OUT_OF_MEMORY, DISK_FAILED, NO_JOURNAL, PORT_FAILED, JOURNAL_FULL}
use Rattle.nb_commands.specs.Ending.{at_no_place}
use Rattle.nb_work.specs.declared.working.Dials.{Dials}
use Rattle.nb_work.specs.declared.selling.Stop.{Stop}
use Rattle.nb_work.specs.declared.selling.Stop.TheVariants as stops
use Rattle.nb_work.specs.Buying.{not_opened}

-- ---- how it ends

-- why nothing more is sold behind a link on which selling ended so. Where it ended with that link, the next one is sold on
abbrev pub stop_for : SellEnd → Option Stop
stop_for ends.Ended = None
stop_for ends.ServerFault = Some stops.ServerFault
stop_for (ends.DiskFault before after) = Some stops.DiskFault
stop_for (ends.Full cap) = Some stops.Full
stop_for ends.NoMemory = Some stops.NoMemory

-- the status then: a port and a link to the house that failed have one
abbrev pub status_of : Stop → ℕ
status_of stops.Closed = CLEAN
status_of stops.PortFault = PORT_FAILED
status_of stops.ServerFault = PORT_FAILED
status_of stops.DiskFault = DISK_FAILED
status_of stops.Full = JOURNAL_FULL
status_of stops.NoMemory = OUT_OF_MEMORY

-- ---- one link behind another

-- what is sold with, from one link to the next: the journal, the merchant, the link to the house, and the moments that the clock gave
pub record Standing (D : Type 0) : Type 0 where
  pub journal : Journal D
  pub shop : Shop
  pub house : LinkSeen
  pub clock : Option (List ℕ)

-- these as one
abbrev pub standing : {D : Type 0} → Journal D → Shop → LinkSeen → Option (List ℕ) → Standing D
standing journal shop house clock = record { journal = journal; shop = shop; house = house; clock = clock }

-- with the link of a consumer
abbrev pub with_link : {D : Type 0} → Standing D → LinkSeen → Around D
with_link s consumer = around s.journal s.shop s.house consumer s.clock

-- a link that was sold on: as the port gave it and as it took it back, how selling on it ended, and what is sold with behind it
pub record Sale (D : Type 0) : Type 0 where
  pub given : LinkSeen
  pub taken : LinkSeen
  pub end : SellEnd
  pub behind : Standing D

-- all links as the port gave them
abbrev pub links_given : {D : Type 0} → List (Sale D) → List LinkSeen
links_given {D} sales = map (λ (s : Sale D). s.given) sales

-- the same as it took them back
abbrev pub links_taken : {D : Type 0} → List (Sale D) → List LinkSeen
links_taken {D} sales = map (λ (s : Sale D). s.taken) sales

-- what was sold on each is a run of the merchant, which begins where that on the one before it ended
abbrev pub AreSold : {D : Type 0} → DiskTells D → Standing D → List (Sale D) → Standing D → Type 0
AreSold tells first [] last = last ≡ first
AreSold tells first (s ∷ sales) last = Sold tells (with_link first s.given) (with_link s.behind s.taken) s.end × AreSold tells s.behind sales last

-- behind a link that is the last one for a reason of its own
abbrev pub IsLastFor : {D : Type 0} → Option Stop → List (Sale D) → Stop → Type 0 → Type 0
IsLastFor None sales stop goes_on = goes_on
IsLastFor (Some why) sales stop goes_on = (sales ≡ []) × (why ≡ stop)

-- it is the port that gives no more
abbrev pub IsOfPort : Stop → Type 0
IsOfPort stop = (stop ≡ stops.Closed) ⊎ (stop ≡ stops.PortFault)

-- each link but the last one ended by itself, and the last one for this reason; or each did, and it is the port's
abbrev pub StopsFor : {D : Type 0} → List (Sale D) → Stop → Type 0
StopsFor [] stop = IsOfPort stop
StopsFor (s ∷ sales) stop = IsLastFor (stop_for s.end) sales stop (StopsFor sales stop)

-- how many links the port has left then: none, or some where it failed
abbrev pub LeavesAs : PortSeen → PortSeen → Stop → Type 0
LeavesAs old new stops.Closed = new.left ≡ 0
LeavesAs old new stops.PortFault = (0 < new.left) × Rose old.faults new.faults
LeavesAs old new other = Unit {0}

-- a port gave the links of these sales, the first of those to come, and took each back
pub record GaveAll {D : Type 0} (old new : PortSeen) (sales : List (Sale D)) : Type 0 where
  pub given : old.coming ≡ with_given (links_given sales) new.coming
  pub taken : new.taken ≡ with_taken (links_taken sales) old.taken
  pub out : new.out ≡ old.out
  pub left : old.left ≡ new.left + length sales
  pub count : old.faults ≤ new.faults

-- the links of a port were sold on, one behind the other, up to where nothing more is sold
pub record Serves {D : Type 0} (tells : DiskTells D) (first last : Standing D) (old new : PortSeen) (stop : Stop) : Type 0 where
  pub sales : List (Sale D)
  pub are : AreSold tells first sales last
  pub port : GaveAll old new sales
  pub why : StopsFor sales stop
  pub leaves : LeavesAs old new stop

-- ---- what stands then

-- what stands around the job, before it or behind it: the disk, the worker's port and clock, and the link to the house
pub record Outside (D : Type 0) : Type 0 where
  pub disk : D
  pub worker : WorkerSeen
  pub house : LinkSeen

-- these as one
abbrev pub outside : {D : Type 0} → D → WorkerSeen → LinkSeen → Outside D
outside disk worker house = record { disk = disk; worker = worker; house = house }

-- nothing was begun: the port, the clock and the link are as before, and no byte of the disk was written
pub record IsUnbegun {D : Type 0} (tells : DiskTells D) (old new : Outside D) : Type 0 where
  pub unwritten : Unwritten tells old.disk new.disk
  pub worker : new.worker ≡ old.worker
  pub house : new.house ≡ old.house

-- the image is a journal, and this is its first item that no merchant with the stall of its head, this shelf and these offers keeps behind those before it
pub record IsNoStall (shelf : List Product) (offers : Option Tariff) (image : List ℕ) (item : ℕ) : Type 0 where
  pub cap : ℕ
  pub charter : Charter
  pub items : List (List ℕ)
  pub holds : Holds image cap charter items
  pub first : restarted (new_shop (stall_of charter.head) shelf offers) 0 items ≡ Err item

-- It was sold with the stall that the disk holds: its journal is at rest with the items of the content, the merchant is what starts again with them and
-- the shelf, and the links of the port are sold on from there
pub record SoldWith {D : Type 0} (tells : DiskTells D) (shelf : List Product) (offers : Option Tariff) (old new : Outside D) (stop : Stop) : Type 0 where
  pub cap : ℕ
  pub charter : Charter
  pub items : List (List ℕ)
  pub opened : Journal D
  pub shop : Shop
  pub last : Standing D
  -- what the content holds, and who it is the stall of
  pub holds : IfSome (tells.content old.disk) (λ image. Holds image cap charter items)
  pub rest : AtRest tells (front_bytes cap charter) items opened
  pub cap_is : opened.cap ≡ cap
  pub starts : restarted (new_shop (stall_of charter.head) shelf offers) 0 items ≡ Ok shop
  -- it kept exactly these, and so its journal is at rest with what it kept
  pub kept : kept_bytes shop ≡ items
  pub is : IsKept shop
  -- opening wrote nothing
  pub unwritten : Unwritten tells old.disk opened.disk
  pub counted : tells.faults old.disk ≤ tells.faults opened.disk
  -- the links, one behind the other
  pub serves : Serves tells (standing opened shop old.house old.worker.clock) last old.worker.port new.worker.port stop
  pub clock : new.worker.clock ≡ last.clock
  pub house : new.house ≡ last.house
  -- the journal's disk is handed back
  pub handed_back : new.disk ≡ last.journal.disk

-- what selling comes to: the stall's journal was not opened; or an item of it is none of a stall with this shelf; or nothing was begun for want of memory,
-- whatever the content; or it was sold
abbrev pub SellsAs : {D : Type 0} → DiskTells D → List Product → Option Tariff → Outside D → Outside D → Ending → Type 0
SellsAs tells shelf offers old new ending =
    ((fault : OpenFault) × (ending ≡ not_opened fault) × OpenFails tells old.disk new.disk fault × IsUnbegun tells old new)
    ⊎ ((item : ℕ) × (ending ≡ at_no_place NO_JOURNAL) × IfSome (tells.content old.disk) (λ image. IsNoStall shelf offers image item) × IsUnbegun tells old new)
    ⊎ ((ending ≡ at_no_place OUT_OF_MEMORY) × IsUnbegun tells old new)
    ⊎ ((stop : Stop) × (ending ≡ at_no_place (status_of stop)) × SoldWith tells shelf offers old new stop)

-- so over the one worker and the link to the house that was dialled, which are handed back
abbrev pub SellsOver : {D L : Type 0} → DiskTells D → (L → LinkSeen) → List Product → Option Tariff → D → D → List WorkerSeen → List WorkerSeen → Dials L → Dials L → Ending → Type 0
SellsOver {D} {L} tells seen shelf offers disk disk' before after dials dials' ending =
    (worker worker' : WorkerSeen) × (server server' : L) × (before ≡ worker ∷ []) × (after ≡ worker' ∷ [])
    × (dials.server ≡ Some server) × (dials' ≡ record dials { server = Some server' })
    × SellsAs tells shelf offers (outside disk worker (seen server)) (outside disk' worker' (seen server')) ending
