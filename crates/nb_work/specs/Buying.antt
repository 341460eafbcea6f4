-- What a job of buying comes to.
use Rattle.std.specs.Prelude.{◌≡◌, ◌⊎◌, ℕ, ◌≤◌, List, [], Option, Some, IfSome, Ok, Err}
use Rattle.nb_units.specs.declared.charter.Charter.{Charter}
use Rattle.nb_units.specs.declared.ids.PartyId.{PartyId}
use Rattle.nb_units.specs.declared.ids.Price.{Price}
use Rattle.nb_port.specs.Tells.{DiskTells}
use Rattle.nb_link.specs.Link.{LinkSeen}
use Rattle.nb_journal.specs.declared.journal.Journal.{Journal}
use Rattle.nb_journal.specs.declared.opening.OpenFault.{OpenFault}
use Rattle.nb_journal.specs.declared.opening.OpenFault.TheVariants as opens
use Rattle.nb_journal.specs.Layout.{front_bytes}
use Rattle.nb_journal.specs.Opening.{OpenFails}
use Rattle.nb_journal.specs.Reading.{Holds}
use Rattle.nb_journal.specs.States.{AtRest}
use Rattle.nb_journal.specs.Time.{Unwritten}
use Rattle.nb_wallet.specs.declared.wallet.Start.{Start}
use Rattle.nb_wallet.specs.Head.{wallet_of}
use Rattle.nb_consumer.specs.State.{Buyer}
use Rattle.nb_consumer.specs.Restart.{restarted}
use Rattle.nb_buy.specs.declared.ended.BuyEnd.{BuyEnd}
use Rattle.nb_buy.specs.declared.ended.BuyEnd.TheVariants as ends
use Rattle.nb_buy.specs.declared.ended.Lost.TheVariants as lost
use Rattle.nb_buy.specs.Bought.{Bought, IsUnwritten, WritesGoods, around}
use Rattle.nb_commands.specs.declared.ending.Ending.{Ending}
use Rattle.nb_commands.specs.declared.ending.TheConstants.{CLEAN, SINK_FAILED, OUT_OF_MEMORY, DISK_FAILED, NO_JOURNAL, UNPAID, LINK_FAILED, JOURNAL_FULL}
use Rattle.nb_commands.specs.Ending.{at_no_place}
use Rattle.nb_work.specs.declared.working.Dials.{Dials}

-- the purchase that a job asks for, with what is said to the merchant: no note is made
abbrev pub start_of : PartyId → ℕ → Price → ℕ → List ℕ → Start
start_of merchant product limit transaction request = record { transaction = transaction; merchant = merchant; product = product; limit = limit; request = request; memo = [] }

-- ---- how it ends

-- how it ends where the wallet's journal was not opened: a place is shown of damage alone
abbrev pub not_opened : OpenFault → Ending
not_opened (opens.Unborn found) = at_no_place NO_JOURNAL
not_opened (opens.Damaged item place) = record { status = NO_JOURNAL; place = place }
not_opened (opens.DiskFault before after) = at_no_place DISK_FAILED
not_opened opens.NoMemory = at_no_place OUT_OF_MEMORY

-- how it ends where a purchase was made, by how that ended
abbrev pub status_of : BuyEnd → ℕ
status_of ends.Paid = CLEAN
status_of ends.Unpaid = UNPAID
status_of ends.SinkFault = SINK_FAILED
status_of (ends.Stopped peer why) = LINK_FAILED
status_of ends.Spent = LINK_FAILED
status_of (ends.Lost lost.NoMemory) = OUT_OF_MEMORY
status_of (ends.Lost (lost.Full cap)) = JOURNAL_FULL
status_of (ends.Lost (lost.DiskFault before after)) = DISK_FAILED

-- ---- what stands then

-- the links to the house and to the seller
abbrev pub dialled : {L : Type 0} → L → L → Dials L
dialled server seller = record { server = Some server; seller = Some seller }

-- what stands around the job, before it or behind it: the disk, the two links, what was written to the output and how often that failed
pub record Outside (D : Type 0) : Type 0 where
  pub disk : D
  pub house : LinkSeen
  pub seller : LinkSeen
  pub sent : Option (List ℕ)
  pub faults : ℕ

-- nothing was begun: the links and the output are as before, and no byte of the disk was written
pub record IsUnbegun {D : Type 0} (tells : DiskTells D) (old new : Outside D) : Type 0 where
  pub unwritten : Unwritten tells old.disk new.disk
  pub house : new.house ≡ old.house
  pub seller : new.seller ≡ old.seller
  pub sent : new.sent ≡ old.sent
  pub faults : new.faults ≡ old.faults

-- the image is a journal, and this is its first item that no consumer with the wallet of its head keeps behind those before it
pub record IsNoWallet (image : List ℕ) (item : ℕ) : Type 0 where
  pub cap : ℕ
  pub charter : Charter
  pub items : List (List ℕ)
  pub holds : Holds image cap charter items
  pub first : restarted (wallet_of charter.head) items ≡ Err item

-- A purchase was made with the wallet that the disk holds: its journal is at rest with the items of the content, the consumer is what starts again with
-- them, and the purchase is made from there
pub record BoughtWith {D : Type 0} (tells : DiskTells D) (s : Start) (old new : Outside D) (end : BuyEnd) : Type 0 where
  pub cap : ℕ
  pub charter : Charter
  pub items : List (List ℕ)
  pub opened : Journal D
  pub buyer : Buyer
  pub journal : Journal D
  pub later : Buyer
  -- what the content holds, and who it is the wallet of
  pub holds : IfSome (tells.content old.disk) (λ image. Holds image cap charter items)
  pub rest : AtRest tells (front_bytes cap charter) items opened
  pub cap_is : opened.cap ≡ cap
  pub starts : restarted (wallet_of charter.head) items ≡ Ok buyer
  -- opening wrote nothing
  pub unwritten : Unwritten tells old.disk opened.disk
  pub counted : tells.faults old.disk ≤ tells.faults opened.disk
  -- the purchase, and the output
  pub bought : Bought tells s (around opened buyer old.house old.seller) (around journal later new.house new.seller) end
  pub goods : WritesGoods s later old.faults new.faults old.sent new.sent end
  pub unsent : IsUnwritten end → (new.sent ≡ old.sent) × (new.faults ≡ old.faults)
  -- the journal's disk is handed back
  pub handed_back : new.disk ≡ journal.disk

-- what buying comes to: the wallet's journal was not opened; or an item of it is none of a wallet's; or nothing was begun for want of memory, whatever the
-- content; or a purchase was made
abbrev pub BuysAs : {D : Type 0} → DiskTells D → Start → Outside D → Outside D → Ending → Type 0
BuysAs tells s old new ending =
    ((fault : OpenFault) × (ending ≡ not_opened fault) × OpenFails tells old.disk new.disk fault × IsUnbegun tells old new)
    ⊎ ((item : ℕ) × (ending ≡ at_no_place NO_JOURNAL) × IfSome (tells.content old.disk) (λ image. IsNoWallet image item) × IsUnbegun tells old new)
    ⊎ ((ending ≡ at_no_place OUT_OF_MEMORY) × IsUnbegun tells old new)
    ⊎ ((end : BuyEnd) × (ending ≡ at_no_place (status_of end)) × BoughtWith tells s old new end)

-- so over the links that were dialled, which are handed back
abbrev pub BuysOver : {D L : Type 0} → DiskTells D → (L → LinkSeen) → Start → D → D → Dials L → Dials L → Option (List ℕ) → Option (List ℕ) → ℕ → ℕ → Ending → Type 0
BuysOver {D} {L} tells seen s disk disk' dials dials' sent sent' faults faults' ending =
    (house seller house' seller' : L) × (dials ≡ dialled house seller) × (dials' ≡ dialled house' seller')
    × BuysAs tells s (record { disk = disk; house = seen house; seller = seen seller; sent = sent; faults = faults })
    (record { disk = disk'; house = seen house'; seller = seen seller'; sent = sent'; faults = faults' }) ending
