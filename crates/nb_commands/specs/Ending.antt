-- How a run of the program ends.
use Rattle.std.specs.Prelude.{◌≡◌, ℕ}
use Rattle.nb_commands.specs.declared.ending.Ending.{Ending}
use Rattle.nb_commands.specs.declared.ending.Outcome.{Outcome}
use Rattle.nb_commands.specs.declared.ending.Outcome.TheVariants.{Done, Work}

-- the ending with this status, at place 0
abbrev pub at_no_place : ℕ → Ending
at_no_place status = record { status = status; place = 0 }

-- the run is over, and this is true of its ending
abbrev pub Ends : Outcome → (Ending → Type 0) → Type 0
Ends (Done ending) P = P ending
Ends (Work job) P = ⊥

-- it is over with this status
abbrev pub EndsWith : Outcome → ℕ → Type 0
EndsWith outcome status = Ends outcome (λ ending. ending.status ≡ status)
