-- What opening the journal of a command comes to.
use Rattle.std.specs.Prelude.{◌≡◌, ℕ, List, Option, Some, IfSome}
use Rattle.nb_port.specs.Tells.{DiskTells}
use Rattle.nb_units.specs.declared.charter.Charter.{Charter}
use Rattle.nb_entry.specs.declared.entry.Entry.{Entry}
use Rattle.nb_vault.specs.declared.vault.opening.VaultFault.{VaultFault}
use Rattle.nb_vault.specs.declared.vault.opening.VaultFault.TheVariants.{Unborn, Damaged, BadEntry, DiskFault, NoMemory}
use Rattle.nb_vault.specs.Holdings.{StandsFor}
use Rattle.nb_vault.specs.Opens.{VaultOpenFails}
use Rattle.nb_commands.specs.declared.ending.Ending.{Ending}
use Rattle.nb_commands.specs.declared.ending.TheConstants.{OUT_OF_MEMORY, DISK_FAILED, NO_JOURNAL}
use Rattle.nb_commands.specs.Ending.{at_no_place}

-- how the run ends, by why it was not opened: a place is shown of damage alone
abbrev pub unopened : VaultFault → Ending
unopened (Unborn found) = at_no_place NO_JOURNAL
unopened (Damaged item place) = record { status = NO_JOURNAL; place = place }
unopened (BadEntry item) = at_no_place NO_JOURNAL
unopened (DiskFault before after) = at_no_place DISK_FAILED
unopened NoMemory = at_no_place OUT_OF_MEMORY

-- the journal was not opened: how the run ends says why
pub record Unopened {D : Type 0} (tells : DiskTells D) (old new : D) (ending : Ending) : Type 0 where
  pub fault : VaultFault
  pub ends : ending ≡ unopened fault
  pub why : VaultOpenFails tells old new fault

-- The journal was opened: its content stands for these entries of a house of this charter and cap, and so does each image that a stop may leave of the disk
-- that is handed back
pub record Opened {D : Type 0} (tells : DiskTells D) (old new : D) : Type 0 where
  pub charter : Charter
  pub cap : ℕ
  pub entries : List Entry
  pub stands : IfSome (tells.content old) (StandsFor charter cap entries)
  pub images : (image : List ℕ) → tells.allowed new image → StandsFor charter cap entries image

-- the content stands for a list of entries
pub record IsJournal (content : Option (List ℕ)) : Type 0 where
  pub image : List ℕ
  pub charter : Charter
  pub cap : ℕ
  pub entries : List Entry
  pub is : content ≡ Some image
  pub stands : StandsFor charter cap entries image
