-- What opening a vault gives.
use Rattle.std.specs.Prelude.{◌≡◌, ℕ, ◌≤◌, ⊤, false, List, [], Option, Some, IfSome, Result, Ok, Err, length, vec_capacity}
use Rattle.nb_units.specs.declared.charter.Charter.{Charter}
use Rattle.nb_port.specs.Tells.{DiskTells}
use Rattle.nb_port.specs.Faults.{Rose}
use Rattle.nb_entry.specs.declared.entry.Entry.{Entry}
use Rattle.nb_entry.specs.declared.spelling.TheConstants.{MAX_ITEM_ENTRIES}
use Rattle.nb_journal.specs.declared.opening.Opened.{Opened}
use Rattle.nb_journal.specs.Layout.{IsMagic, front_bytes, AreTerms}
use Rattle.nb_journal.specs.Opening.{charter_of}
use Rattle.nb_journal.specs.Reading.{Holds, IsUnborn, IsDamaged}
use Rattle.nb_journal.specs.States.{AtRest}
use Rattle.nb_turns.specs.declared.limits.TheConstants.{MAX_REQUESTS}
use Rattle.nb_vault.specs.declared.parts.Parts.{Parts}
use Rattle.nb_vault.specs.declared.records.TheConstants.{ROOM}
use Rattle.nb_vault.specs.declared.vault.opening.Room.{Room}
use Rattle.nb_vault.specs.declared.vault.opening.ReplyRoom.{ReplyRoom}
use Rattle.nb_vault.specs.declared.vault.opening.TurnRoom.{TurnRoom}
use Rattle.nb_vault.specs.declared.vault.opening.VaultFault.{VaultFault}
use Rattle.nb_vault.specs.declared.vault.opening.VaultFault.TheVariants as opens
use Rattle.nb_vault.specs.Holdings.{Joins, StandsFor}
use Rattle.nb_vault.specs.Parts.{IsVault}
use Rattle.nb_vault.specs.Records.{disk_under}
use Rattle.nb_vault.specs.Restoring.{FirstBad}
use Rattle.nb_vault.specs.Vaults.{Chronicled, IsDurable, Keeps, most_lines}

-- the image is a journal, and this is its first item that does not spell entries which may come next in a journal of its charter
pub record IsBadEntry (image : List ℕ) (item : ℕ) : Type 0 where
  pub cap : ℕ
  pub charter : Charter
  pub items : List (List ℕ)
  pub holds : Holds image cap charter items
  pub first : FirstBad charter cap items item

-- what stands for a list is none of these
pub record IsGood (image : List ℕ) : Type 0 where
  pub born : (found : List ℕ) → IsUnborn image found → ⊥
  pub whole : (item place : ℕ) → IsDamaged image item place → ⊥
  pub lawful : (item : ℕ) → IsBadEntry image item → ⊥

-- law: what stands for a list of entries is not unborn, not damaged, and has no bad entry
abbrev pub WholeIsGood : Type 0
WholeIsGood = (image : List ℕ) (charter : Charter) (cap : ℕ) (entries : List Entry) → StandsFor charter cap entries image → IsGood image

-- by cases on the fault, for the disk before and after
abbrev pub VaultOpenFails : {D : Type 0} → DiskTells D → D → D → VaultFault → Type 0
VaultOpenFails tells old new (opens.Unborn found) = (IsMagic found → ⊥) × IfSome (tells.content old) (λ image. IsUnborn image found)
VaultOpenFails tells old new (opens.Damaged item place) = IfSome (tells.content old) (λ image. IsDamaged image item place)
VaultOpenFails tells old new (opens.BadEntry item) = IfSome (tells.content old) (λ image. IsBadEntry image item)
VaultOpenFails tells old new (opens.DiskFault before after) = (before ≡ tells.faults old) × (after ≡ tells.faults new) × Rose before after
VaultOpenFails tells old new opens.NoMemory = ⊤

-- nothing was done yet, the content stands for the entries, and a stop leaves nothing else
pub record VaultOpensAs {D : Type 0} (tells : DiskTells D) (disk : D) (v : Chronicled D) : Type 0 where
  pub lines : v.lines ≡ []
  pub count : v.origin.faults ≡ tells.faults disk
  pub stands : IfSome (tells.content disk) (StandsFor v.origin.charter v.origin.cap v.origin.entries)
  pub durable : IsDurable tells v
  pub keeps : Keeps tells v

-- by cases on the result
abbrev pub VaultOpenGives : {D : Type 0} → DiskTells D → D → Result (Chronicled D) (VaultFault × D) → Type 0
VaultOpenGives tells disk (Ok v) = VaultOpensAs tells disk v
VaultOpenGives tells disk (Err e) = VaultOpenFails tells disk e.1 e.0

-- the most bytes of an item, in numbers
abbrev pub ItemRoomIs : Type 0
ItemRoomIs = ROOM ≡ 4000

-- what comes of a content that stands for these entries: they are opened, or the disk failed, or there was no memory
abbrev pub OpensWhole : {D : Type 0} → Charter → ℕ → List Entry → Result (Chronicled D) (VaultFault × D) → Type 0
OpensWhole charter cap entries (Ok v) = (v.origin.charter ≡ charter) × (v.origin.cap ≡ cap) × (v.origin.entries ≡ entries)
OpensWhole charter cap entries (Err (opens.DiskFault before after, disk)) = ⊤
OpensWhole charter cap entries (Err (opens.NoMemory, disk)) = ⊤
OpensWhole charter cap entries (Err other) = ⊥

-- what opening answers where the content stands for a list of entries
abbrev pub WholeOpens : {D : Type 0} → Option (List ℕ) → Result (Chronicled D) (VaultFault × D) → Type 0
WholeOpens content result = (image : List ℕ) (charter : Charter) (cap : ℕ) (entries : List Entry) → content ≡ Some image → StandsFor charter cap entries image → OpensWhole charter cap entries result

-- the disk, in the vault or given back
abbrev pub disk_in : {D : Type 0} → Result (Chronicled D) (VaultFault × D) → D
disk_in (Ok v) = v.disk
disk_in (Err e) = e.1

-- ---- for the contracts of private functions alone

-- a journal that was opened, with its items
pub record IsOpened {D : Type 0} (tells : DiskTells D) (o : Opened D) : Type 0 where
  pub terms : AreTerms o.cap (charter_of o)
  pub rest : AtRest tells (front_bytes o.cap (charter_of o)) o.items.items o.journal
  pub cap : o.journal.cap ≡ o.cap
  pub room : o.journal.room ≡ ROOM

-- memory for a turn
pub record IsRoomForTurn (turn : TurnRoom) : Type 0 where
  pub group : MAX_ITEM_ENTRIES ≤ vec_capacity turn.group
  pub item : ROOM ≤ vec_capacity turn.item
  pub places : MAX_REQUESTS ≤ vec_capacity turn.places

-- memory for so many entries and for the lines of all turns, and for a turn
pub record IsRoomFor (cap : ℕ) (room : Room) : Type 0 where
  pub entries : room.book.entries ≡ []
  pub cap_is : room.book.cap ≡ cap
  pub turn : IsRoomForTurn room.turn
  pub drafts : MAX_REQUESTS ≤ vec_capacity room.replies.drafts
  pub told : room.lines.items ≡ []
  pub lines : most_lines cap ≤ vec_capacity room.lines

-- a vault over these items
pub record IsRestored {D : Type 0} (tells : DiskTells D) (o : Opened D) (count : ℕ) (p : Parts D) : Type 0 where
  pub vault : IsVault tells p
  pub joins : Joins o.items.items p.records.book.entries
  pub opening : p.opening ≡ length p.records.book.entries
  pub fresh : p.records.journal.stale ≡ false
  pub lines : p.lines.items ≡ []
  pub from : p.count ≡ count
  pub charter : p.records.charter ≡ charter_of o
  pub cap : p.records.book.cap ≡ o.cap
  pub disk : disk_under p.records ≡ o.journal.disk

-- by cases on the fault, with the disk that is given back
abbrev pub RestoreFails : {D : Type 0} → Opened D → D → VaultFault → Type 0
RestoreFails o disk (opens.BadEntry item) = FirstBad (charter_of o) o.cap o.items.items item × (disk ≡ o.journal.disk)
RestoreFails o disk opens.NoMemory = disk ≡ o.journal.disk
RestoreFails o disk other = ⊥

-- what restoring the entries of an opened journal answers
abbrev pub RestoreGives : {D : Type 0} → DiskTells D → Opened D → ℕ → Result (Parts D × ReplyRoom) (VaultFault × D) → Type 0
RestoreGives tells o count (Ok r) = IsRestored tells o count r.0 × (MAX_REQUESTS ≤ vec_capacity r.1.drafts)
RestoreGives tells o count (Err e) = RestoreFails o e.1 e.0
