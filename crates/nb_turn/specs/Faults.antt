-- The answers of a split that makes no pass.
use Rattle.std.specs.Prelude.{ℕ}
use Rattle.nb_turn.specs.declared.fault.SplitFault.{SplitFault}
use Rattle.nb_turn.specs.declared.fault.SplitFault.TheVariants.{NoMemory, Taken}

-- there was no memory
abbrev pub no_memory : SplitFault
no_memory = NoMemory

-- the number's bit was set in this word
abbrev pub taken_in : ℕ → SplitFault
taken_in word = Taken word
