-- How a purchase changes, and what each purchase keeps to.
use Rattle.std.specs.Prelude.{ℕ, ◌+◌, ◌≤◌, List, [], ◌++◌, length, Option, Some, None}
use Rattle.nb_units.specs.declared.limits.TheConstants.{MAX_HIDDEN}
use Rattle.nb_body.specs.declared.goods_head.GoodsHead.{GoodsHead}
use Rattle.nb_goods.specs.declared.limits.TheConstants.{MAX_SEALED}
use Rattle.nb_wallet.specs.declared.purchase.Stage.{Stage}
use Rattle.nb_wallet.specs.declared.purchase.Stage.TheVariants as stage
use Rattle.nb_wallet.specs.Purchases.{Purchase}
use Rattle.nb_wallet.specs.declared.purchase.Change.{Change}
use Rattle.nb_wallet.specs.declared.purchase.Change.TheVariants as change
use Rattle.nb_wallet.specs.Spelling.{StartKeepsRules, PassKeepsRules}

-- the parts behind a change
abbrev pub held_behind : Change → List ℕ → List ℕ
held_behind change.Same held = held
held_behind (change.More part) held = held ++ part
held_behind change.Forgotten held = []

-- a purchase at a stage, with the parts behind a change
abbrev pub changed_to : Stage → Change → Purchase → Purchase
changed_to stage parts p = record { start = p.start; stage = stage; held = held_behind parts p.held }

-- there is not more than sealed goods may have
abbrev pub ChangeFits : List ℕ → Change → Type 0
ChangeFits held (change.More part) = length held + length part ≤ MAX_SEALED
ChangeFits held other = Unit {0}

-- the total that was told is not more than sealed goods may have
abbrev pub HeadIsSound : Option GoodsHead → Type 0
HeadIsSound None = Unit {0}
HeadIsSound (Some h) = h.total ≤ MAX_SEALED

-- what a stage keeps to: no text is longer than it may be
abbrev pub StageIsSound : Stage → Type 0
StageIsSound (stage.Asked pass) = PassKeepsRules pass
StageIsSound (stage.Wanted pass price head) = PassKeepsRules pass × HeadIsSound head
StageIsSound (stage.Ordered pass order least) = PassKeepsRules pass × (length order.hidden ≤ MAX_HIDDEN)
StageIsSound other = Unit {0}

-- what every purchase keeps to
abbrev pub Sound : Purchase → Type 0
Sound p = StartKeepsRules p.start × StageIsSound p.stage
