-- What laying an image of a journal on a disk gives, and crowning it.
use Rattle.std.specs.Prelude.{◌≡◌, ℕ, ◌≤◌, List, ◌++◌, length, take, drop, replicate, Option, IfSome, Result, Ok, Err}
use Rattle.nb_port.specs.Tells.{DiskTells}
use Rattle.nb_port.specs.Disk.{Only, Torn, put_at, wrote_at}
use Rattle.nb_port.specs.Faults.{Rose}
use Rattle.nb_port.specs.declared.disk.DiskOut.{DiskOut}
use Rattle.nb_port.specs.declared.disk.DiskOut.TheVariants as outs
use Rattle.nb_units.specs.declared.charter.Charter.{Charter}
use Rattle.nb_units.specs.declared.limits.TheConstants.{FEE_VERSION}
use Rattle.nb_journal.specs.declared.migrating.CopyFault.{CopyFault}
use Rattle.nb_journal.specs.Layout.{magic, front_bytes}
use Rattle.nb_journal.specs.Stands.{Stands}

-- an image with zeros for its magic
abbrev pub blanked : List ℕ → List ℕ
blanked image = replicate 8 0 ++ drop 8 image

-- the count rose between these two
abbrev pub CopyFails : {D : Type 0} → DiskTells D → D → D → CopyFault → Type 0
CopyFails tells old new fault = (fault.before ≡ tells.faults old) × (fault.after ≡ tells.faults new) × Rose fault.before fault.after

-- the image stands in front, but for its magic, and a stop leaves nothing else
abbrev pub LayGives : {D : Type 0} → DiskTells D → D → D → List ℕ → Result (Unit {0}) CopyFault → Type 0
LayGives tells old new image (Ok done) = (tells.content new ≡ wrote_at (tells.content old) 0 (blanked image)) × Only (tells.content new) (tells.allowed new)
LayGives tells old new image (Err fault) = CopyFails tells old new fault

-- the magic of the second version stands in front, and a stop leaves nothing else
abbrev pub CrownGives : {D : Type 0} → DiskTells D → D → D → Result (Unit {0}) CopyFault → Type 0
CrownGives tells old new (Ok done) = (tells.content new ≡ wrote_at (tells.content old) 0 (magic FEE_VERSION)) × Only (tells.content new) (tells.allowed new)
CrownGives tells old new (Err fault) = CopyFails tells old new fault

-- a content with its first eight bytes torn, and perhaps more behind its end, which is behind the last gate of a journal and so free
abbrev pub TornCrown : Option (List ℕ) → List ℕ → Type 0
TornCrown content image = IfSome content (λ bytes. Torn 0 8 bytes image)

-- for the contract of a private function alone: the image is written but for its magic
abbrev pub BlankGives : ℕ → ℕ → Option (List ℕ) → Option (List ℕ) → List ℕ → DiskOut → Type 0
BlankGives before after old new image outs.Done = new ≡ wrote_at old 0 (blanked image)
BlankGives before after old new image outs.Failed = Rose before after

-- ---- laws

-- what a stop leaves of a content while its magic is written, where it begins with that of the second version: up to the content's end
-- it is that magic and the content's other bytes
abbrev pub CrownLeaves : Type 0
CrownLeaves = (content image : List ℕ) → 8 ≤ length content → Torn 0 8 content image → take 8 image ≡ magic FEE_VERSION
    → take (length content) image ≡ magic FEE_VERSION ++ drop 8 content

-- an image of the second version that stands for items, laid over any bytes: once it is crowned it stands for these items, and so
-- does what a stop leaves while it is, where that begins with the magic of the second version
abbrev pub CrownStands : Type 0
CrownStands = (old image : List ℕ) (charter : Charter) (cap : ℕ) (items : List (List ℕ)) → charter.version ≡ FEE_VERSION
    → Stands (front_bytes cap charter) items image → let laid = put_at old 0 (blanked image) in
    Stands (front_bytes cap charter) items (put_at laid 0 (magic FEE_VERSION))
    × ((left : List ℕ) → Torn 0 8 laid left → take 8 left ≡ magic FEE_VERSION → Stands (front_bytes cap charter) items left)
