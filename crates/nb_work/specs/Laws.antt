-- What follows for a job over links.
use Rattle.std.specs.Prelude.{◌≡◌, ◌⊎◌, ℕ, ◌+◌, ◌≤◌, List, [], ◌∷◌, ◌++◌, length, Option, Some, IfSome, Ok}
use Rattle.std.specs.Io.KnownBytes.{Appends}
use Rattle.nb_units.specs.declared.charter.Charter.{Charter}
use Rattle.nb_port.specs.Tells.{DiskTells}
use Rattle.nb_port.specs.Faults.{Rose}
use Rattle.nb_entry.specs.declared.entry.Entry.{Entry}
use Rattle.nb_turns.specs.declared.line.Line.{Line}
use Rattle.nb_vault.specs.Holdings.{StandsFor}
use Rattle.nb_server.specs.declared.worker.WorkerEnd.{WorkerEnd}
use Rattle.nb_server.specs.Served.{WorkerSeen}
use Rattle.nb_server.specs.Laws.{AreFaultless, AllServeWhole}
use Rattle.nb_commands.specs.declared.ending.Ending.{Ending}
use Rattle.nb_commands.specs.declared.ending.TheConstants.{CLEAN, OUT_OF_MEMORY, DISK_FAILED, PORT_FAILED, JOURNAL_FULL}
use Rattle.nb_commands.specs.Ending.{at_no_place}
use Rattle.nb_commands.specs.declared.ending.TheConstants.{UNPAID}
use Rattle.nb_journal.specs.Layout.{front_bytes}
use Rattle.nb_journal.specs.Reading.{Holds}
use Rattle.nb_journal.specs.Stands.{Stands}
use Rattle.nb_wallet.specs.declared.wallet.Start.{Start}
use Rattle.nb_wallet.specs.Head.{wallet_of}
use Rattle.nb_consumer.specs.declared.phase.Phase.{Phase}
use Rattle.nb_consumer.specs.declared.phase.Phase.TheVariants as phase
use Rattle.nb_consumer.specs.State.{Buyer, purchase_of}
use Rattle.nb_consumer.specs.Goods.{goods_in}
use Rattle.nb_consumer.specs.Restart.{restarted}
use Rattle.nb_buy.specs.declared.ended.BuyEnd.{BuyEnd}
use Rattle.nb_buy.specs.Run.{Act, buyer_behind, kept_by, phase_for}
use Rattle.nb_buy.specs.Bought.{around}
use Rattle.nb_buy.specs.Laws.{acts_of, GoesOn, IsBrought}
use Rattle.nb_price.specs.Products.{Product}
use Rattle.nb_groups.specs.Offers.{Tariff}
use Rattle.nb_stall.specs.Head.{stall_of}
use Rattle.nb_merchant.specs.Shop.{Shop, new_shop}
use Rattle.nb_merchant.specs.Keeping as keeping
use Rattle.nb_sell.specs.Laws as links
use Rattle.nb_work.specs.Buying.{Outside, BoughtWith, BuysAs}
use Rattle.nb_work.specs.declared.selling.Stop.{Stop}
use Rattle.nb_work.specs.Selling.{Standing, Sale, AreSold, SellsAs, SoldWith, standing, with_link}
use Rattle.nb_work.specs.Selling as sales
use Rattle.nb_work.specs.Work.{ServesAs}

-- over a content that stands for a list, where no count of the disk, of a port or of a link rises, ports tell their links, and each link gives
-- few frames: every link of every worker is served whole and the job ends with 0, or it ends with want of memory
abbrev pub Completes : {D W : Type 0} → DiskTells D → (W → List WorkerSeen) → Type 0
Completes {D} {W} tells sees = (old new : D) (before after : W) (lines : List Line) (ends : List WorkerEnd) (ending : Ending)
    (image : List ℕ) (charter : Charter) (cap : ℕ) (entries : List Entry)
    → ServesAs tells sees old new before after lines ends ending
    → tells.content old ≡ Some image → StandsFor charter cap entries image
    → (Rose (tells.faults old) (tells.faults new) → ⊥) → AreFaultless (sees before) (sees after)
    → (ending ≡ at_no_place OUT_OF_MEMORY) ⊎ ((ending ≡ at_no_place CLEAN) × AllServeWhole (sees before) ends)

-- ---- a purchase

-- the content holds a wallet with these items, whose consumer starts again with them as this, and which may hold so many
pub record IsWallet (image : List ℕ) (cap : ℕ) (items : List (List ℕ)) (buyer : Buyer) : Type 0 where
  pub charter : Charter
  pub holds : Holds image cap charter items
  pub starts : restarted (wallet_of charter.head) items ≡ Ok buyer

-- what a stop leaves since before the job: what might have been left before it, or a wallet that goes on from there: it holds the items with the first
-- so many of those that the acts of the purchase keep, and starts again to what the consumer knew then, but for the places that it was told
abbrev pub StopsGoOn : {D : Type 0} → DiskTells D → Type 0
StopsGoOn {D} tells = (s : Start) (old new : Outside D) (end : BuyEnd) (b : BoughtWith tells s old new end)
    → (image : List ℕ) → tells.left new.disk (tells.moment old.disk) image
    → tells.allowed old.disk image
    ⊎ GoesOn s b.buyer b.items (acts_of tells s (around b.opened b.buyer old.house old.seller) (around b.journal b.later new.house new.seller) end b.bought) (front_bytes b.cap b.charter) image

-- no count rose
pub record NothingFails {D : Type 0} (tells : DiskTells D) (old new : Outside D) : Type 0 where
  pub disk : Rose (tells.faults old.disk) (tells.faults new.disk) → ⊥
  pub house_reads : Rose old.house.read_faults new.house.read_faults → ⊥
  pub house_writes : Rose old.house.write_faults new.house.write_faults → ⊥
  pub seller_reads : Rose old.seller.read_faults new.seller.read_faults → ⊥
  pub seller_writes : Rose old.seller.write_faults new.seller.write_faults → ⊥
  pub output : Rose old.faults new.faults → ⊥

-- how it ends, by how far the purchase is: its goods were written, or none were had
abbrev pub EndsPaid : Option (List ℕ) → Option (List ℕ) → Option (List ℕ) → Option Phase → Ending → Type 0
EndsPaid goods sent sent' (Some (phase.Paid len)) ending = (ending ≡ at_no_place CLEAN) × IfSome goods (λ bytes. Appends sent sent' bytes)
EndsPaid goods sent sent' (Some (phase.Refused code)) ending = ending ≡ at_no_place UNPAID
EndsPaid goods sent sent' (Some phase.Foul) ending = ending ≡ at_no_place UNPAID
EndsPaid goods sent sent' other ending = ⊥

-- A purchase with a wallet that has room for the items, over links whose frames bring it to its end, ends as it is behind those acts, where no count
-- rises: with 0 and its goods where it has some, with 10 where it was refused or its key opens nothing; or with 6 for want of memory
abbrev pub PurchasesComplete : {D : Type 0} → DiskTells D → Type 0
PurchasesComplete {D} tells = (s : Start) (old new : Outside D) (ending : Ending) → BuysAs tells s old new ending
    → (image : List ℕ) (cap : ℕ) (items : List (List ℕ)) (buyer : Buyer) → tells.content old.disk ≡ Some image → IsWallet image cap items buyer
    → (acts : List Act) → IsBrought s buyer old.house old.seller acts → length items + length (kept_by s buyer acts) ≤ cap
    → NothingFails tells old new
    → (ending ≡ at_no_place OUT_OF_MEMORY)
    ⊎ EndsPaid (goods_in (purchase_of (buyer_behind s buyer acts) s.transaction)) old.sent new.sent (phase_for s (buyer_behind s buyer acts)) ending

-- ---- selling

-- behind the first acts on one of the links this is what the stall's journal holds, and a merchant that starts again with that, and sells what it sold, is as it was then
abbrev pub GoesOnIn : {D : Type 0} (tells : DiskTells D) (front image : List ℕ) (first : Standing D) (all : List (Sale D)) (last : Standing D) → AreSold tells first all last → Type 0
GoesOnIn tells front image first [] last are = ⊥
GoesOnIn tells front image first (s ∷ all) last are =
    links.GoesOn first.shop (links.acts_of tells (with_link first s.given) (with_link s.behind s.taken) s.end are.0) front image ⊎ GoesOnIn tells front image s.behind all last are.1

-- what a stop leaves since before the job: what might have been left before it, or a stall that goes on from there: the items with
-- the first so many of those that the merchant kept, which starts again to the merchant that it was then
abbrev pub SalesGoOn : {D : Type 0} → DiskTells D → Type 0
SalesGoOn {D} tells = (shelf : List Product) (offers : Option Tariff) (old new : sales.Outside D) (stop : Stop) (s : SoldWith tells shelf offers old new stop)
    → (image : List ℕ) → tells.left new.disk (tells.moment old.disk) image
    → tells.allowed old.disk image
    ⊎ GoesOnIn tells (front_bytes s.cap s.charter) image (standing s.opened s.shop old.house old.worker.clock) s.serves.sales s.last s.serves.are

-- where it ends with 13 a count of the port or of the link to the house rose, and with 7 that of the disk; where it ends with 0 the port has no link left
abbrev pub SalesAreTold : {D : Type 0} → DiskTells D → Type 0
SalesAreTold {D} tells = (shelf : List Product) (offers : Option Tariff) (old new : sales.Outside D) (ending : Ending) → SellsAs tells shelf offers old new ending
    → (ending.status ≡ PORT_FAILED
    → Rose old.worker.port.faults new.worker.port.faults ⊎ Rose old.house.read_faults new.house.read_faults ⊎ Rose old.house.write_faults new.house.write_faults)
    × (ending.status ≡ DISK_FAILED → Rose (tells.faults old.disk) (tells.faults new.disk))
    × (ending.status ≡ CLEAN → new.worker.port.left ≡ 0)

-- the content holds a stall with these items, whose merchant starts again with them and the shelf as this, and which may hold so many
pub record IsStall (shelf : List Product) (offers : Option Tariff) (image : List ℕ) (cap : ℕ) (items : List (List ℕ)) (shop : Shop) : Type 0 where
  pub charter : Charter
  pub holds : Holds image cap charter items
  pub starts : keeping.restarted (new_shop (stall_of charter.head) shelf offers) 0 items ≡ Ok shop

-- no count of the disk, the port and the link to the house rose
pub record NoneFails {D : Type 0} (tells : DiskTells D) (old new : sales.Outside D) : Type 0 where
  pub disk : Rose (tells.faults old.disk) (tells.faults new.disk) → ⊥
  pub port : Rose old.worker.port.faults new.worker.port.faults → ⊥
  pub house_reads : Rose old.house.read_faults new.house.read_faults → ⊥
  pub house_writes : Rose old.house.write_faults new.house.write_faults → ⊥

-- the content is a stall with these items and some more, as many as it may hold
pub record IsFilled (cap : ℕ) (items : List (List ℕ)) (image : List ℕ) : Type 0 where
  pub charter : Charter
  pub more : List (List ℕ)
  pub stands : Stands (front_bytes cap charter) (items ++ more) image
  pub full : length (items ++ more) ≡ cap

-- Over a content that is a stall with the shelf, where no such count rises, whatever consumers do: each link of the port is sold on and the job ends with 0; or the
-- stall is full, and holds as many items as it may; or there was no memory
abbrev pub SalesComplete : {D : Type 0} → DiskTells D → Type 0
SalesComplete {D} tells = (shelf : List Product) (offers : Option Tariff) (old new : sales.Outside D) (ending : Ending) → SellsAs tells shelf offers old new ending
    → (image : List ℕ) (cap : ℕ) (items : List (List ℕ)) (shop : Shop) → tells.content old.disk ≡ Some image → IsStall shelf offers image cap items shop → NoneFails tells old new
    → (ending ≡ at_no_place OUT_OF_MEMORY)
    ⊎ ((ending ≡ at_no_place JOURNAL_FULL) × IfSome (tells.content new.disk) (IsFilled cap items))
    ⊎ ((ending ≡ at_no_place CLEAN) × (new.worker.port.left ≡ 0))
