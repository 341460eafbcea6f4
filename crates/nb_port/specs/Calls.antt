-- The calls of an object that fails at calls chosen before. They are numbered from 1, all kinds together.
use Rattle.std.specs.Prelude.{ℕ, List, Contains}
use Rattle.nb_port.specs.Faults.{one_more}

-- the numbers of the calls that are to fail, how many calls were made, and how many failed
pub record Calls : Type 0 where
  pub fails : List ℕ
  pub made : ℕ
  pub faults : ℕ

-- no call was made
abbrev pub no_calls : List ℕ → Calls
no_calls fails = record { fails = fails; made = 0; faults = 0 }

-- the next call is one of those that are to fail
abbrev pub NextFails : Calls → Type 0
NextFails calls = Contains calls.fails (one_more calls.made)

-- one more call was made, and it worked
abbrev pub worked : Calls → Calls
worked calls = record { fails = calls.fails; made = one_more calls.made; faults = calls.faults }

-- one more call was made, and it failed
abbrev pub failed : Calls → Calls
failed calls = record { fails = calls.fails; made = one_more calls.made; faults = one_more calls.faults }
