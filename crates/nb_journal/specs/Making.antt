-- What making a journal gives.
use Rattle.std.specs.Prelude.{◌≡◌, ◌⊎◌, ℕ, ◌<◌, ◌≤◌, List, [], Option, IfSome, Result, Ok, Err}
use Rattle.nb_port.specs.Tells.{DiskTells}
use Rattle.nb_port.specs.Disk.{Only, SameImages}
use Rattle.nb_port.specs.Faults.{Rose}
use Rattle.nb_journal.specs.declared.making.InitFault.{InitFault}
use Rattle.nb_journal.specs.declared.making.InitFault.TheVariants as inits
use Rattle.nb_journal.specs.declared.making.MagicRead.{MagicRead}
use Rattle.nb_journal.specs.declared.making.MagicRead.TheVariants as magics
use Rattle.nb_units.specs.declared.charter.Charter.{Charter}
use Rattle.nb_units.specs.declared.limits.TheConstants.{MAX_CAP, MAX_RATE, FIRST_VERSION, FEE_VERSION}
use Rattle.nb_journal.specs.Layout.{IsMagic, front_bytes}
use Rattle.nb_journal.specs.Reading.{found_in}
use Rattle.nb_journal.specs.Stands.{Stands}
use Rattle.nb_journal.specs.Time.{Untouched}

-- what is made without a rate: it is of the first version
abbrev pub without_fee : List ℕ → Charter
without_fee head = record { head = head; version = FIRST_VERSION; rate = 0 }

-- what is made with one: it is of the second
abbrev pub with_fee : List ℕ → ℕ → Charter
with_fee head rate = record { head = head; version = FEE_VERSION; rate = rate }

-- the cap is in its range
abbrev pub IsCap : ℕ → Type 0
IsCap cap = (1 ≤ cap) × (cap ≤ MAX_CAP)

-- the cap and the rate are in their ranges
abbrev pub MayMake : ℕ → Charter → Type 0
MayMake cap charter = IsCap cap × (charter.rate ≤ MAX_RATE)

-- the content begins with no magic
abbrev pub NoJournal : Option (List ℕ) → Type 0
NoJournal content = IfSome content (λ image. IsMagic (found_in image) → ⊥)

-- by cases on the fault, for the disk before and after: at Exists and LookFailed nothing was written, and at DiskFault there was no
-- journal
abbrev pub InitFails : {D : Type 0} → DiskTells D → D → D → ℕ → Charter → InitFault → Type 0
InitFails tells old new cap charter (inits.BadCap given) = (given ≡ cap) × ((cap ≡ 0) ⊎ (MAX_CAP < cap)) × (new ≡ old)
InitFails tells old new cap charter (inits.BadRate given) = (given ≡ charter.rate) × IsCap cap × (MAX_RATE < charter.rate) × (new ≡ old)
InitFails tells old new cap charter (inits.Exists found) =
    MayMake cap charter × IsMagic found × IfSome (tells.content old) (λ image. found ≡ found_in image) × (tells.content new ≡ tells.content old) × SameImages (tells.allowed old) (tells.allowed new)
InitFails tells old new cap charter (inits.LookFailed before after) =
    MayMake cap charter × (before ≡ tells.faults old) × (after ≡ tells.faults new) × Rose before after × Untouched tells old new
InitFails tells old new cap charter (inits.DiskFault before after) =
    MayMake cap charter × (before ≡ tells.faults old) × (after ≡ tells.faults new) × Rose before after × NoJournal (tells.content old)

-- a journal that is there stays as it is, whatever is answered: nothing is written
abbrev pub SparesJournal : {D : Type 0} → DiskTells D → D → D → Type 0
SparesJournal tells old new = IfSome (tells.content old) (λ image. IsMagic (found_in image) → Untouched tells old new)

-- the content and all that a stop leaves stand for no items
abbrev pub InitGives : {D : Type 0} → DiskTells D → D → D → ℕ → Charter → Result (Unit {0}) InitFault → Type 0
InitGives tells old new cap charter (Ok done) =
    MayMake cap charter × NoJournal (tells.content old) × IfSome (tells.content new) (Stands (front_bytes cap charter) []) × Only (tells.content new) (tells.allowed new)
InitGives tells old new cap charter (Err fault) = InitFails tells old new cap charter fault

-- the content begins with this magic, or with none
abbrev pub MagicGives : ℕ → ℕ → Option (List ℕ) → MagicRead → Type 0
MagicGives before after content (magics.Is found) = IsMagic found × IfSome content (λ image. found ≡ found_in image)
MagicGives before after content magics.Other = NoJournal content
MagicGives before after content magics.Failed = Rose before after
