-- What holds of every script that is played.
use Rattle.std.specs.Prelude.{◌≡◌, List, ℕ, Ok}
use Rattle.nb_consumer.specs.State.{Buyer}
use Rattle.nb_merchant.specs.Shop.{Shop}
use Rattle.nb_world.specs.World.{World}
use Rattle.nb_script.specs.Settings.{Setting}
use Rattle.nb_script.specs.Reads.{ScriptSays}
use Rattle.nb_simulator.specs.declared.setup.Setup.{Setup}
use Rattle.nb_simulator.specs.Setups.{IsLawful}
use Rattle.nb_player.specs.Playing.{IsSetUpOf}
use Rattle.nb_player.specs.Report.{ReportIs}

-- what a script sets up is as a world needs it
abbrev pub SetUpsAreLawful : Type 0
SetUpsAreLawful = (lines : List (List ℕ)) (said : Setting) (s : Setup) → ScriptSays lines (Ok said) → IsSetUpOf said s → IsLawful s

-- a world has one report
abbrev pub OneReport : Type 0
OneReport = (w : World Buyer Shop) (a b : List ℕ) → ReportIs w a → ReportIs w b → a ≡ b
