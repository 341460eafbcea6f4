-- The tests that the rows of nodes share. Each goes on, or gives the reason for which a message or a word of the holder is ignored.
use Rattle.std.specs.Prelude.{◌≡◌, ℕ, Bool, true, false, List, take, Option, Some, None, Result, Ok, Err}
use Rattle.nb_units.specs.Fields.{◌>>=◌}
use Rattle.nb_seal.specs.Seal.{text_in}
use Rattle.nb_msgs.specs.declared.node.Reason.{Reason}
use Rattle.nb_msgs.specs.declared.node.Reason.TheVariants as reason

-- what is asked for holds, or this is why not
abbrev pub unless : Bool → Reason → Result (Unit {0}) Reason
unless true why = Ok tt
unless false why = Err why

-- the test of this number holds
abbrev pub field : ℕ → Bool → Result (Unit {0}) Reason
field n test = unless test (reason.Field n)

-- something was found, or there is this reason
abbrev pub found : {A : Type 0} → Reason → Option A → Result A Reason
found why (Some x) = Ok x
found why None = Err why

-- what was read, or that nothing opens to what can be read
abbrev pub or_seal : {A E : Type 0} → Result A E → Result A Reason
or_seal (Ok x) = Ok x
or_seal (Err fault) = Err reason.Seal

-- the bytes are the seal of a text under the key and the label, and the text is read so
unfoldable pub opened : {A E : Type 0} → (List ℕ → Result A E) → List ℕ → List ℕ → List ℕ → Result A Reason
opened reading key label bytes = do
  plain ← found reason.Seal (text_in key label bytes)
  or_seal (reading plain)

-- a text that was unsealed stands at the front of a buffer, or there is none
abbrev pub Unseals : Option (List ℕ) → List ℕ → Result ℕ Reason → Type 0
Unseals text buffer (Ok n) = text ≡ Some (take n buffer)
Unseals text buffer (Err why) = (text ≡ None) × (why ≡ reason.Seal)
