-- What a reader of several fields gave.
use Rattle.std.specs.Prelude.{◌≡◌, ℕ, Result, Ok, Err}
use Rattle.nb_units.specs.declared.malformed.Malformed.{Malformed}

-- it is the value that stands there, or the place of the first field that fails
abbrev pub Reads : {A : Type 0} → Result A Malformed → Result A ℕ → Type 0
Reads (Ok value) read = read ≡ Ok value
Reads (Err malformed) read = read ≡ Err malformed.place
