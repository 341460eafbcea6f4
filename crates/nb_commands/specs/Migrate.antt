-- What moving a journal of the first version into one of the second comes to.
use Rattle.std.specs.Prelude.{◌≡◌, ℕ, ◌+◌, ◌≤◌, List, ◌++◌, length, take, drop, Option, Some, IfSome, Result, Ok, Err}
use Rattle.nb_port.specs.Tells.{DiskTells}
use Rattle.nb_port.specs.Disk.{Only, put_at, wrote_at}
use Rattle.nb_port.specs.Faults.{Rose}
use Rattle.nb_units.specs.Fields.{be2}
use Rattle.nb_units.specs.declared.limits.TheConstants.{FIRST_VERSION, FEE_VERSION}
use Rattle.nb_entry.specs.declared.entry.Entry.{Entry}
use Rattle.nb_journal.specs.Layout.{IsMagic, front_bytes, magic, up_to_gate}
use Rattle.nb_journal.specs.declared.limits.TheConstants.{MAX_IMAGE}
use Rattle.nb_journal.specs.Making.{NoJournal, with_fee, without_fee}
use Rattle.nb_journal.specs.Migrating.{TornCrown, blanked}
use Rattle.nb_journal.specs.Reading.{IsDamaged, found_in}
use Rattle.nb_journal.specs.Stands.{Stands}
use Rattle.nb_journal.specs.Time.{LeavesOnly, Untouched}
use Rattle.nb_vault.specs.declared.vault.opening.VaultFault.{VaultFault}
use Rattle.nb_vault.specs.declared.vault.opening.VaultFault.TheVariants as opens
use Rattle.nb_vault.specs.Holdings.{Joins, StandsFor}
use Rattle.nb_vault.specs.Opens.{IsBadEntry}
use Rattle.nb_commands.specs.declared.ending.Ending.{Ending}
use Rattle.nb_commands.specs.declared.ending.TheConstants.{CLEAN, SOURCE_FAILED, BAD_INPUT, OUT_OF_MEMORY, DISK_FAILED, NOT_MADE}
use Rattle.nb_commands.specs.declared.migrate.MigrateEnd.{MigrateEnd}
use Rattle.nb_commands.specs.declared.migrate.MigrateEnd.TheVariants.{Moved, ReadFault, TooLong, NotFirst, Damaged, BadEntry, NoMemory, Exists, LookFault, LayFault, CrownFault}
use Rattle.nb_commands.specs.Ending.{at_no_place}
use Rattle.nb_commands.specs.Init.{IsSpared}
use Rattle.nb_commands.specs.Input.{TookAll, TookMore, TookUpTo}

-- how it ends the program: an input that is no journal of the first version is shown at its first damage, else at 0, and one that is too long at
-- the limit
abbrev pub move_ending : MigrateEnd → Ending
move_ending Moved = at_no_place CLEAN
move_ending ReadFault = at_no_place SOURCE_FAILED
move_ending TooLong = record { status = BAD_INPUT; place = MAX_IMAGE }
move_ending NotFirst = at_no_place BAD_INPUT
move_ending (Damaged place) = record { status = BAD_INPUT; place = place }
move_ending BadEntry = at_no_place BAD_INPUT
move_ending NoMemory = at_no_place OUT_OF_MEMORY
move_ending Exists = at_no_place NOT_MADE
move_ending LookFault = at_no_place DISK_FAILED
move_ending LayFault = at_no_place DISK_FAILED
move_ending CrownFault = at_no_place DISK_FAILED

-- ---- the input

-- it begins with the magic of the first version
abbrev pub BeginsFirst : List ℕ → Type 0
BeginsFirst input = take 8 input ≡ magic FIRST_VERSION

-- it is a journal of the first version
abbrev pub IsFirst : List ℕ → Type 0
IsFirst input = (head : List ℕ) × (cap : ℕ) × (entries : List Entry) × StandsFor (without_fee head) cap entries input

-- it is a journal of the first version, and its first gate that is not open, behind its entries, is at this place
pub record EndsAt (image : List ℕ) (gate : ℕ) : Type 0 where
  pub head : List ℕ
  pub cap : ℕ
  pub entries : List Entry
  pub items : List (List ℕ)
  pub whole : StandsFor (without_fee head) cap entries image
  pub joins : Joins items entries
  pub shut : Stands (front_bytes cap (without_fee head)) items image
  pub place : gate ≡ length (up_to_gate (front_bytes cap (without_fee head)) items)

-- why it is none, by cases on the end; of no memory nothing is said
abbrev pub IsRefused : List ℕ → MigrateEnd → Type 0
IsRefused input NotFirst = BeginsFirst input → ⊥
IsRefused input (Damaged place) = BeginsFirst input × ((item : ℕ) × IsDamaged input item place)
IsRefused input BadEntry = BeginsFirst input × ((item : ℕ) × IsBadEntry input item)
IsRefused input NoMemory = Unit {0}
IsRefused input other = ⊥

-- all of it was read, and it has this
abbrev pub TookInput : Option (List ℕ) → Option (List ℕ) → (List ℕ → Type 0) → Type 0
TookInput rest rest' P = (input : List ℕ) × TookAll rest rest' MAX_IMAGE input × P input

-- ---- the disk, before and after

-- an image up to and with the gate at a place, with a rate in place of its own
abbrev pub renewed : List ℕ → ℕ → ℕ → List ℕ
renewed image gate rate = put_at (take (gate + 1) image) 92 (be2 rate)

-- where one begins with the magic of the second version it stands for the entries
abbrev pub StandsIfCrowned : List ℕ → ℕ → ℕ → List Entry → List ℕ → Type 0
StandsIfCrowned head rate cap entries image = take 8 image ≡ magic FEE_VERSION → StandsFor (with_fee head rate) cap entries image

-- It had no journal, and the input was laid on it, up to and with its first gate that is not open, with the rate in it and zeros for its magic: there
-- is the disk behind laying, of which a stop leaves no journal, and since which it leaves what is no journal of the second version, or the whole one
pub record IsLaid {D : Type 0} (tells : DiskTells D) (old new : D) (input : List ℕ) (rate : ℕ) : Type 0 where
  pub gate : ℕ
  pub first : EndsAt input gate
  pub laid : D
  pub unborn : NoJournal (tells.content old)
  pub bytes : tells.content laid ≡ wrote_at (tells.content old) 0 (blanked (renewed input gate rate))
  pub blank : (image : List ℕ) → tells.allowed laid image → IsMagic (found_in image) → ⊥
  pub since : LeavesOnly tells laid new (λ image. IfSome (tells.content laid) (λ bytes. StandsIfCrowned first.head rate first.cap first.entries image))

-- and it has the journal with the same head, cap and entries, and this rate; a stop leaves that and nothing else. The input's bytes stand in
-- front up to and with that gate, but for the magic and the rate
pub record IsMoved {D : Type 0} (tells : DiskTells D) (old new : D) (input : List ℕ) (rate : ℕ) : Type 0 where
  pub way : IsLaid tells old new input rate
  pub stands : IfSome (tells.content new) (StandsFor (with_fee way.first.head rate) way.first.cap way.first.entries)
  pub images : (image : List ℕ) → tells.allowed new image → StandsFor (with_fee way.first.head rate) way.first.cap way.first.entries image
  pub bytes : tells.content new ≡ wrote_at (tells.content old) 0 (magic FEE_VERSION ++ drop 8 (renewed input way.gate rate))

-- ---- all of it

-- by cases on the end: the input is read and judged before the disk is touched
abbrev pub MovesAs : {D : Type 0} → DiskTells D → Option (List ℕ) → Option (List ℕ) → ℕ → ℕ → D → D → ℕ → MigrateEnd → Type 0
MovesAs tells rest rest' source source' old new rate ReadFault = Rose source source' × TookUpTo rest rest' MAX_IMAGE × (new ≡ old)
MovesAs tells rest rest' source source' old new rate TooLong = TookMore rest rest' MAX_IMAGE × (new ≡ old)
MovesAs tells rest rest' source source' old new rate NoMemory = TookUpTo rest rest' MAX_IMAGE × (new ≡ old)
MovesAs tells rest rest' source source' old new rate NotFirst = TookInput rest rest' (λ input. IsRefused input NotFirst) × (new ≡ old)
MovesAs tells rest rest' source source' old new rate (Damaged place) = TookInput rest rest' (λ input. IsRefused input (Damaged place)) × (new ≡ old)
MovesAs tells rest rest' source source' old new rate BadEntry = TookInput rest rest' (λ input. IsRefused input BadEntry) × (new ≡ old)
MovesAs tells rest rest' source source' old new rate Exists = TookInput rest rest' IsFirst × IsSpared tells old new
MovesAs tells rest rest' source source' old new rate LookFault = TookInput rest rest' IsFirst × Rose (tells.faults old) (tells.faults new) × Untouched tells old new
MovesAs tells rest rest' source source' old new rate LayFault = TookInput rest rest' IsFirst × Rose (tells.faults old) (tells.faults new) × NoJournal (tells.content old)
MovesAs tells rest rest' source source' old new rate CrownFault = TookInput rest rest' (λ input. IsLaid tells old new input rate) × Rose (tells.faults old) (tells.faults new)
MovesAs tells rest rest' source source' old new rate Moved = TookInput rest rest' (λ input. IsMoved tells old new input rate)

-- moving a journal came to one of its ends, which says how the run ends
abbrev pub MigrateIs : {D : Type 0} → DiskTells D → Option (List ℕ) → Option (List ℕ) → ℕ → ℕ → D → D → ℕ → Ending → Type 0
MigrateIs tells rest rest' source source' old new rate ending = (end : MigrateEnd) × (ending ≡ move_ending end) × MovesAs tells rest rest' source source' old new rate end

-- the input is a journal of the first version that is not too long, and nothing else
pub record IsFirstInput (left : Option (List ℕ)) : Type 0 where
  pub input : List ℕ
  pub is : left ≡ Some input
  pub few : length input ≤ MAX_IMAGE
  pub first : IsFirst input

-- ---- for the contracts of private functions alone

-- what looking at an input answers: the gate at which its journal ends, or the end that refuses it
abbrev pub JudgedAs : List ℕ → Result ℕ MigrateEnd → Type 0
JudgedAs image (Ok gate) = EndsAt image gate
JudgedAs image (Err end) = IsRefused image end

-- why an image was not opened, as an end
abbrev pub refused_for : VaultFault → MigrateEnd
refused_for (opens.Unborn found) = NotFirst
refused_for (opens.Damaged item place) = Damaged place
refused_for (opens.BadEntry item) = BadEntry
refused_for (opens.DiskFault before after) = NoMemory
refused_for opens.NoMemory = NoMemory

-- the image was laid, up to this disk
pub record LaidSo {D : Type 0} (tells : DiskTells D) (old laid new : D) (image : List ℕ) : Type 0 where
  pub bytes : tells.content laid ≡ wrote_at (tells.content old) 0 (blanked image)
  pub only : Only (tells.content laid) (tells.allowed laid)
  pub since : LeavesOnly tells laid new (TornCrown (tells.content laid))

-- and then its magic was written
abbrev pub PutsAs : {D : Type 0} → DiskTells D → D → D → List ℕ → MigrateEnd → Type 0
PutsAs {D} tells old new image Moved =
    (laid : D) × LaidSo tells old laid new image × (tells.content new ≡ wrote_at (tells.content laid) 0 (magic FEE_VERSION)) × Only (tells.content new) (tells.allowed new)
PutsAs {D} tells old new image CrownFault = (laid : D) × LaidSo tells old laid new image × Rose (tells.faults old) (tells.faults new)
PutsAs tells old new image LayFault = Rose (tells.faults old) (tells.faults new)
PutsAs tells old new image other = ⊥
