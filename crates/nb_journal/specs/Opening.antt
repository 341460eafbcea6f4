-- What opening a journal gives.
use Rattle.std.specs.Prelude.{◌≡◌, ℕ, ⊤, IfSome, Result, Ok, Err}
use Rattle.std.specs.List.{AllByRecursion}
use Rattle.nb_units.specs.declared.charter.Charter.{Charter}
use Rattle.nb_port.specs.Tells.{DiskTells}
use Rattle.nb_port.specs.Faults.{Rose}
use Rattle.nb_journal.specs.declared.opening.Opened.{Opened}
use Rattle.nb_journal.specs.declared.opening.OpenFault.{OpenFault}
use Rattle.nb_journal.specs.declared.opening.OpenFault.TheVariants as opens
use Rattle.nb_journal.specs.Layout.{IsMagic, front_bytes, AreTerms, IsItem}
use Rattle.nb_journal.specs.Reading.{Holds, IsUnborn, IsDamaged}
use Rattle.nb_journal.specs.States.{AtRest}

-- what it was made with, beside its cap
abbrev pub charter_of : {D : Type 0} → Opened D → Charter
charter_of o = record { head = o.head; version = o.version; rate = o.rate }

-- the journal is at rest with the items of the content, and these are what the content holds
pub record OpensJournal {D : Type 0} (tells : DiskTells D)
    (disk : D) (max_bytes : ℕ) (o : Opened D) : Type 0 where
  pub terms : AreTerms o.cap (charter_of o)
  pub fit : AllByRecursion IsItem o.items.items
  pub rest : AtRest tells (front_bytes o.cap (charter_of o)) o.items.items o.journal
  pub cap : o.journal.cap ≡ o.cap
  pub room : o.journal.room ≡ max_bytes
  pub holds : IfSome (tells.content disk) (λ image. Holds image o.cap (charter_of o) o.items.items)

-- by cases on the fault, for the disk before and after
abbrev pub OpenFails : {D : Type 0} → DiskTells D → D → D → OpenFault → Type 0
OpenFails tells old new (opens.Unborn found) = (IsMagic found → ⊥) × IfSome (tells.content old) (λ image. IsUnborn image found)
OpenFails tells old new (opens.Damaged item place) = IfSome (tells.content old) (λ image. IsDamaged image item place)
OpenFails tells old new (opens.DiskFault before after) = (before ≡ tells.faults old) × (after ≡ tells.faults new) × Rose before after
OpenFails tells old new opens.NoMemory = ⊤

-- by cases on the result
abbrev pub OpenGives : {D : Type 0} → DiskTells D → D → ℕ → Result (Opened D) (OpenFault × D) → Type 0
OpenGives tells disk room (Ok o) = OpensJournal tells disk room o
OpenGives tells disk room (Err e) = OpenFails tells disk e.1 e.0

-- the disk, in the journal or given back
abbrev pub disk_of : {D : Type 0} → Result (Opened D) (OpenFault × D) → D
disk_of (Ok o) = o.journal.disk
disk_of (Err e) = e.1
