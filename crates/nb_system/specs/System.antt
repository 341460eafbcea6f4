-- What an adapter over an object of std is seen as.
use Rattle.std.specs.Prelude.{◌≡◌, ℕ, List, Option}
use Rattle.nb_port.specs.Disk.{DiskWriteGives}
use Rattle.nb_system.specs.File.{Within}
use Rattle.nb_port.specs.declared.disk.DiskOut.{DiskOut}
use Rattle.nb_system.specs.declared.disk.FileState.{FileState}
use Rattle.nb_system.specs.declared.disk.FileState.TheVariants as states

-- the object, and how many of its calls failed
pub record Adapter (T : Type 0) : Type 0 where
  pub over : T
  pub faults : ℕ

-- a disk over a file: the file, whether it was prepared, and how many calls failed
pub record FileAdapter (F : Type 0) : Type 0 where
  pub file : F
  pub state : FileState
  pub faults : ℕ

-- a disk whose file failed stays so, and asks nothing of it; this came with it
abbrev pub StaysFailed : {F : Type 0} → FileAdapter F → FileAdapter F → Type 0 → Type 0
StaysFailed old new told = old.state ≡ states.Failed → (new.file ≡ old.file) × (new.state ≡ states.Failed) × told

-- A write, behind what preparing the file left of its content: that is the content where it was prepared before
abbrev pub WritesFrom : {F : Type 0} → (F → Option (List ℕ)) → FileAdapter F → FileAdapter F → ℕ → List ℕ → DiskOut → Type 0
WritesFrom content old new place piece out =
    (before : Option (List ℕ)) × (old.state ≡ states.Prepared → before ≡ content old.file)
    × (Within before place → DiskWriteGives old.faults new.faults before (content new.file) place piece out)
