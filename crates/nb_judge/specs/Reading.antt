-- What reading a case gives.
use Rattle.std.specs.Prelude.{◌≡◌, ℕ, Result, Ok, Err, ⊤}
use Rattle.nb_judge.specs.declared.case.Case.{Case}
use Rattle.nb_judge.specs.declared.case.CaseFault.{CaseFault}
use Rattle.nb_judge.specs.declared.case.CaseFault.TheVariants.{Malformed, NoMemory}

-- the case that stands there, the place of the first field that fails, or want of memory, of which nothing is said
abbrev pub ReadsCase : Result Case CaseFault → Result Case ℕ → Type 0
ReadsCase (Ok c) read = read ≡ Ok c
ReadsCase (Err (Malformed place)) read = read ≡ Err place
ReadsCase (Err NoMemory) read = ⊤
