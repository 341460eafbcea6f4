-- What a read of a source gives. What is left of a source is None where it does not tell.
use Rattle.std.specs.Prelude.{ℕ, ◌<◌, ◌≤◌, List, Option, take}
use Rattle.std.specs.Io.KnownBytes.{Keeps, Consumes, IsAtEnd}
use Rattle.nb_port.specs.Faults.{Rose}
use Rattle.nb_port.specs.declared.source.ReadOut.{ReadOut}
use Rattle.nb_port.specs.declared.source.ReadOut.TheVariants.{Bytes, End, Failed}

-- the count of faults before and after, what was left and is left, the room for bytes, the bytes there now
abbrev pub ReadGives : ℕ → ℕ → Option (List ℕ) → Option (List ℕ) → ℕ → List ℕ → ReadOut → Type 0
ReadGives before after old new room buf (Bytes n) = (0 < n) × (n ≤ room) × Consumes old new (take n buf)
ReadGives before after old new room buf End = IsAtEnd new × Keeps old new
ReadGives before after old new room buf Failed = Rose before after × Keeps old new
