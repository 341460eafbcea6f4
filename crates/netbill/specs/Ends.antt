-- How the program ends on its words.
use Rattle.std.specs.Prelude.{◌≡◌, ℕ, List}
use Rattle.nb_port.specs.Tells.{DiskTells}
use Rattle.nb_commands.specs.declared.ending.Ending.{Ending}
use Rattle.nb_commands.specs.declared.ending.Outcome.{Outcome}
use Rattle.nb_commands.specs.declared.ending.Outcome.TheVariants.{Done, Work}
use Rattle.nb_run.specs.Run.{Around, Ran}
use Rattle.nb_platform.specs.Doing.{ComesTo, FitsWork}

-- behind a run that came to an outcome: as it ended, and nothing more is touched; or as the job did that it left, whose numbers are those of a command, and which
-- touches neither the input nor the clock
abbrev pub EndsBehind : {S K D C : Type 0} → DiskTells D → Around S K D C → Around S K D C → Outcome → Ending → Type 0
EndsBehind tells ran after (Done over) ending = (ending ≡ over) × (after ≡ ran)
EndsBehind tells ran after (Work job) ending =
    (after.source ≡ ran.source) × (after.clock ≡ ran.clock) × FitsWork job
    × ComesTo tells job ran.disk after.disk ran.sent after.sent ran.sink_faults after.sink_faults ending

-- there was a run on these words, from what stood before it, and the program ended behind it
abbrev pub EndsOn : {S K D C : Type 0} → DiskTells D → Around S K D C → Around S K D C → List (List ℕ) → Ending → Type 0
EndsOn {S} {K} {D} {C} tells before after words ending =
    (ran : Around S K D C) × (outcome : Outcome) × Ran tells before ran outcome words × EndsBehind tells ran after outcome ending
