-- What a reader of several fields gave that takes memory for what they say.
use Rattle.std.specs.Prelude.{◌≡◌, ℕ, Result, Ok, Err, IsOk}
use Rattle.nb_body.specs.declared.fault.BodyFault.{BodyFault}
use Rattle.nb_body.specs.declared.fault.BodyFault.TheVariants as fault

-- what a reader that takes memory gave: it is the value that stands there, or the bad place; or there is a value, and there was no memory for it
abbrev pub ReadsBody : {A : Type 0} → Result A BodyFault → Result A ℕ → Type 0
ReadsBody (Ok value) read = read ≡ Ok value
ReadsBody (Err (fault.Malformed place)) read = read ≡ Err place
ReadsBody (Err fault.NoMemory) read = IsOk read
