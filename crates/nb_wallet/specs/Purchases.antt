-- What a purchase is seen as, and what stage a key that was kept gives.
use Rattle.std.specs.Prelude.{ℕ, List, [], codes, Option, Some, None}
use Rattle.nb_seal.specs.Seal.{text_in}
use Rattle.nb_wallet.specs.Stages.{stage_opened}
use Rattle.nb_wallet.specs.declared.wallet.Start.{Start}
use Rattle.nb_wallet.specs.declared.purchase.Stage.{Stage}
use Rattle.nb_wallet.specs.declared.purchase.Stage.TheVariants as stage
use Rattle.nb_wallet.specs.declared.purchase.Reached.{Reached}
use Rattle.nb_wallet.specs.declared.purchase.Reached.TheVariants as reached

-- what is known of one purchase: how it was started, how far it has come, and the sealed goods that came
pub record Purchase : Type 0 where
  pub start : Start
  pub stage : Stage
  pub held : List ℕ

-- a purchase that was just started
abbrev pub fresh : Start → Purchase
fresh start = record { start = start; stage = stage.Ticketing; held = [] }

-- the stage of a purchase: it is there, or it was paid, and the sealed goods say whether the key opens them
abbrev pub stage_reached : Reached → List ℕ → Stage
stage_reached (reached.At stage) held = stage
stage_reached (reached.PaidWith key) held = stage_opened key (text_in key (codes "good") held)

-- a stage, unless it is that of a purchase that was paid, whether the key of its receipt opens the goods or not
abbrev pub unless_paid : Stage → Option Stage
unless_paid (stage.Paid key) = None
unless_paid stage.Foul = None
unless_paid other = Some other

-- the goods of a purchase at this stage, with these sealed goods
abbrev pub goods_of : Stage → List ℕ → Option (List ℕ)
goods_of (stage.Paid key) held = text_in key (codes "good") held
goods_of other held = None
