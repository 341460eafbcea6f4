-- What holds of every index.
use Rattle.std.specs.Prelude.{◌≡◌, ◌↔◌, ℕ, List, Some}
use Rattle.std.specs.List.{Contains}
use Rattle.nb_index.specs.declared.put.Put.{Put}
use Rattle.nb_index.specs.declared.limits.TheConstants.{MAX_SLOTS}
use Rattle.nb_index.specs.Puts.{value_in, AreNew}

-- a number is found under a key exactly where it was put under that key
abbrev pub FindsWhatWasPut : Type 0
FindsWhatWasPut = (ps : List Put) → AreNew ps → (k : List ℕ) (v : ℕ) → (value_in ps k ≡ Some v) ↔ Contains ps (record { key = k; value = v })

-- the most slots in numbers
abbrev pub IndexLimitsAre : Type 0
IndexLimitsAre = MAX_SLOTS ≡ 4000000
