-- What a write to a sink gives. What was sent to a sink is None where it does not tell.
use Rattle.std.specs.Prelude.{ℕ, ◌<◌, ◌≤◌, List, Option, length, take}
use Rattle.std.specs.Io.KnownBytes.{Keeps, Appends}
use Rattle.nb_port.specs.Faults.{Rose}
use Rattle.nb_port.specs.declared.sink.WriteOut.{WriteOut}
use Rattle.nb_port.specs.declared.sink.WriteOut.TheVariants.{Took, Failed}

-- the count of faults before and after, what was sent before and after, the bytes to send
abbrev pub WriteGives : ℕ → ℕ → Option (List ℕ) → Option (List ℕ) → List ℕ → WriteOut → Type 0
WriteGives before after old new piece (Took n) = (0 < n) × (n ≤ length piece) × Appends old new (take n piece)
WriteGives before after old new piece Failed = Rose before after × Keeps old new
