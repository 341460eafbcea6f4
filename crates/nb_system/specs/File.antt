-- What the calls of a file give, each at its place. What a file holds is None where it does not tell.
use Rattle.std.specs.Prelude.{◌≡◌, ℕ, ◌-◌, ◌≤◌, List, Option, Some, None, IfSome, length, take, drop, min, ⊤}
use Rattle.nb_port.specs.Disk.{wrote_at, MayTear}
use Rattle.nb_system.specs.declared.file.FileRead.{FileRead}
use Rattle.nb_system.specs.declared.file.FileRead.TheVariants as reads
use Rattle.nb_system.specs.declared.file.FileWrite.{FileWrite}
use Rattle.nb_system.specs.declared.file.FileWrite.TheVariants as writes

-- the place is within the content or at its end, where that is told
abbrev pub Within : Option (List ℕ) → ℕ → Type 0
Within content place = IfSome content (λ bytes. place ≤ length bytes)

-- n bytes were read at a place of the content, at most so many as it has there; none only where there is no room or it has none there
abbrev pub ReadsPart : Option (List ℕ) → ℕ → ℕ → List ℕ → ℕ → Type 0
ReadsPart None place room buf n = ⊤
ReadsPart (Some content) place room buf n =
    (n ≤ length content - place) × (take n buf ≡ take n (drop place content)) × (n ≡ 0 → min room (length content - place) ≡ 0)

-- the content, the place, the room for bytes, the bytes there now
abbrev pub FileReadGives : Option (List ℕ) → ℕ → ℕ → List ℕ → FileRead → Type 0
FileReadGives content place room buf (reads.Got n) = (n ≤ room) × ReadsPart content place room buf n
FileReadGives content place room buf reads.Interrupted = ⊤
FileReadGives content place room buf reads.Failed = ⊤

-- The contents before and after, the place, the bytes. Of a write past the end of the content nothing is said
abbrev pub FileWriteGives : Option (List ℕ) → Option (List ℕ) → ℕ → List ℕ → FileWrite → Type 0
FileWriteGives old new place piece (writes.Took n) = (n ≤ length piece) × (Within old place → new ≡ wrote_at old place (take n piece))
FileWriteGives old new place piece writes.Interrupted = new ≡ old
FileWriteGives old new place piece writes.Failed = Within old place → MayTear old new place (length piece)
