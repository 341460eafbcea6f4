-- What holds of every turn.
use Rattle.std.specs.Prelude.{◌≡◌}
use Rattle.nb_turn.specs.declared.words.TheConstants.{MAX_PASSES}

-- how many numbers there are for passes
abbrev pub TurnLimitsAre : Type 0
TurnLimitsAre = MAX_PASSES ≡ 64
