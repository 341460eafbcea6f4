-- What making a journal comes to.
use Rattle.std.specs.Prelude.{◌≡◌, ◌≢◌, ◌⊎◌, ℕ, ◌+◌, ◌<◌, ◌≤◌, List, [], ◌∷◌, ◌++◌, length, take, Option, None, Some, IfSome}
use Rattle.std.specs.Io.KnownBytes.{Consumes, IsAtEnd}
use Rattle.nb_port.specs.Tells.{DiskTells}
use Rattle.nb_port.specs.Disk.{SameImages, wrote_at}
use Rattle.nb_port.specs.Faults.{Rose}
use Rattle.nb_units.specs.declared.charter.Charter.{Charter}
use Rattle.nb_units.specs.declared.limits.TheConstants.{HEAD}
use Rattle.nb_journal.specs.Layout.{IsMagic, front_bytes}
use Rattle.nb_journal.specs.Making.{IsCap, NoJournal, with_fee, without_fee}
use Rattle.nb_journal.specs.Reading.{found_in}
use Rattle.nb_journal.specs.Time.{Untouched}
use Rattle.nb_vault.specs.Holdings.{StandsFor}
use Rattle.nb_commands.specs.declared.ending.Ending.{Ending}
use Rattle.nb_commands.specs.declared.ending.TheConstants.{CLEAN, SOURCE_FAILED, BAD_INPUT, DISK_FAILED, NOT_MADE}
use Rattle.nb_commands.specs.declared.init.InitEnd.{InitEnd}
use Rattle.nb_commands.specs.declared.init.InitEnd.TheVariants.{Made, BadCap, ReadFault, BadInput, Exists, LookFault, DiskFault}
use Rattle.nb_commands.specs.declared.init.HeadRead.{HeadRead}
use Rattle.nb_commands.specs.declared.init.HeadRead.TheVariants as reads
use Rattle.nb_commands.specs.Ending.{at_no_place}

-- how it ends the program
abbrev pub ending_of : InitEnd → Ending
ending_of Made = at_no_place CLEAN
ending_of BadCap = at_no_place NOT_MADE
ending_of ReadFault = at_no_place SOURCE_FAILED
ending_of (BadInput bytes) = record { status = BAD_INPUT; place = bytes }
ending_of Exists = at_no_place NOT_MADE
ending_of LookFault = at_no_place DISK_FAILED
ending_of DiskFault = at_no_place DISK_FAILED

-- ---- the input, by what was left of it before and after

-- all of it is a head
pub record TookHead (left left' : Option (List ℕ)) (head : List ℕ) : Type 0 where
  pub whole : length head ≡ HEAD
  pub took : Consumes left left' head
  pub ended : IsAtEnd left'

-- it is not: so many bytes were read, up to its end or up to one more than a head has
pub record TookOther (left left' : Option (List ℕ)) (count : ℕ) : Type 0 where
  pub taken : List ℕ
  pub counted : count ≡ length taken
  pub took : Consumes left left' taken
  pub other : ((length taken < HEAD) × IsAtEnd left') ⊎ (length taken ≡ HEAD + 1)

-- a part of it was read, at most as long as a head
pub record TookPart (left left' : Option (List ℕ)) : Type 0 where
  pub taken : List ℕ
  pub short : length taken ≤ HEAD
  pub took : Consumes left left' taken

-- ---- the disk, before and after

-- what a journal with this head is made with: where a rate is asked for, it is of the version with fees
abbrev pub charter_with : List ℕ → Option ℕ → Charter
charter_with head None = without_fee head
charter_with head (Some rate) = with_fee head rate

-- it had no journal, and has one without entries with this charter and cap; a stop leaves that and nothing else
pub record IsMade {D : Type 0} (tells : DiskTells D) (old new : D) (charter : Charter) (cap : ℕ) : Type 0 where
  pub unborn : NoJournal (tells.content old)
  pub bytes : tells.content new ≡ wrote_at (tells.content old) 0 (front_bytes cap charter ++ 0 ∷ [])
  pub stands : IfSome (tells.content new) (StandsFor charter cap [])
  pub images : (image : List ℕ) → tells.allowed new image → StandsFor charter cap [] image

-- it has a journal, and nothing was written
pub record IsSpared {D : Type 0} (tells : DiskTells D) (old new : D) : Type 0 where
  pub born : IfSome (tells.content old) (λ image. IsMagic (found_in image))
  pub same : tells.content new ≡ tells.content old
  pub images : SameImages (tells.allowed old) (tells.allowed new)

-- ---- all of it

-- by cases on the end: the cap is tested before the input is read, and the input before the disk is touched
abbrev pub MakesAs : {D : Type 0} → DiskTells D → Option (List ℕ) → Option (List ℕ) → ℕ → ℕ → D → D → ℕ → Option ℕ → InitEnd → Type 0
MakesAs tells rest rest' source source' old new cap rate BadCap = (IsCap cap → ⊥) × (rest' ≡ rest) × (new ≡ old)
MakesAs tells rest rest' source source' old new cap rate ReadFault = IsCap cap × Rose source source' × TookPart rest rest' × (new ≡ old)
MakesAs tells rest rest' source source' old new cap rate (BadInput bytes) = IsCap cap × TookOther rest rest' bytes × (new ≡ old)
MakesAs tells rest rest' source source' old new cap rate Exists = IsCap cap × ((head : List ℕ) × TookHead rest rest' head) × IsSpared tells old new
MakesAs tells rest rest' source source' old new cap rate LookFault =
    IsCap cap × ((head : List ℕ) × TookHead rest rest' head) × Rose (tells.faults old) (tells.faults new) × Untouched tells old new
MakesAs tells rest rest' source source' old new cap rate DiskFault =
    IsCap cap × ((head : List ℕ) × TookHead rest rest' head) × Rose (tells.faults old) (tells.faults new) × NoJournal (tells.content old)
MakesAs tells rest rest' source source' old new cap rate Made = (head : List ℕ) × IsCap cap × TookHead rest rest' head × IsMade tells old new (charter_with head rate) cap

-- the input is a head and nothing else
abbrev pub IsHeadInput : Option (List ℕ) → Type 0
IsHeadInput left = (head : List ℕ) × (length head ≡ HEAD) × (left ≡ Some head)

-- the disk has no journal
abbrev pub HasNoJournal : Option (List ℕ) → Type 0
HasNoJournal content = (image : List ℕ) × (IsMagic (found_in image) → ⊥) × (content ≡ Some image)

-- ---- for the contracts of private functions alone

-- by cases on what was read, for the counts of faults and what was left
abbrev pub HeadGives : ℕ → ℕ → Option (List ℕ) → Option (List ℕ) → HeadRead → Type 0
HeadGives before after left left' (reads.Whole head) = TookHead left left' head
HeadGives before after left left' (reads.Other bytes) = TookOther left left' bytes
HeadGives before after left left' reads.Failed = Rose before after × TookPart left left'

-- the first bytes are a head, or there are fewer or more of them
abbrev pub CountedAs : List ℕ → ℕ → HeadRead → Type 0
CountedAs bytes count (reads.Whole head) = (count ≡ HEAD) × (head ≡ take HEAD bytes) × (length head ≡ HEAD)
CountedAs bytes count (reads.Other n) = (count ≢ HEAD) × (n ≡ count)
CountedAs bytes count reads.Failed = ⊥
