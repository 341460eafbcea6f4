-- What a world of a simulation is seen as, what it is made of, and what a step tells.
use Rattle.std.specs.Prelude.{◌≡◌, ℕ, ◌<◌, List, length, Option, Some, None}
use Rattle.nb_entry.specs.declared.entry.Entry.{Entry}
use Rattle.nb_book.specs.Legal.{NextUnder}
use Rattle.nb_escrow.specs.declared.head.Head.{Head}
use Rattle.nb_consumer.specs.State.{Buyer}
use Rattle.nb_merchant.specs.Shop.{Shop}
use Rattle.nb_world.specs.declared.turning.Stage.{Stage}
use Rattle.nb_world.specs.declared.turning.Stage.TheVariants as stage
use Rattle.nb_world.specs.declared.turning.Turning.{Turning}
use Rattle.nb_world.specs.World.{Rules, World}
use Rattle.nb_parties.specs.Rules.{real_rules}
use Rattle.nb_packets.specs.Parcels.{IsKind}
use Rattle.nb_simulator.specs.declared.world.Stepped.{Stepped}
use Rattle.nb_simulator.specs.declared.world.Stepped.TheVariants.{Moved, Unfit}

-- the head and the cap of its house, and the world
pub record Simulated : Type 0 where
  pub head : Head
  pub cap : ℕ
  pub world : World Buyer Shop

-- what it goes by
abbrev pub rules_of : Simulated → Rules Buyer Shop
rules_of s = real_rules s.head s.cap

-- an event led to this world, or did not fit and left it
abbrev pub Tells : Option (World Buyer Shop) → World Buyer Shop → World Buyer Shop → Stepped → Type 0
Tells led old new Moved = led ≡ Some new
Tells led old new Unfit = (led ≡ None) × (new ≡ old)

-- the house is the same
abbrev pub SameHouse : Simulated → Simulated → Type 0
SameHouse old new = (new.head ≡ old.head) × (new.cap ≡ old.cap)

-- ---- the turn

-- an entry may come next, and there is room for it
abbrev pub EntryReady : Head → List Entry → ℕ → Option Entry → Type 0
EntryReady head entries cap None = Unit {0}
EntryReady head entries cap (Some e) = NextUnder head.version head.rate entries e × (length entries < cap)

-- so is that of a turn that is not opened
abbrev pub StageReady : Head → List Entry → ℕ → Option Entry → Stage → Type 0
StageReady head entries cap entry stage.Opened = Unit {0}
StageReady head entries cap entry other = EntryReady head entries cap entry

-- the turn, if there is one, has a reply of a kind, and its entry is so until it is opened
abbrev pub TurnReady : Head → List Entry → ℕ → Option Turning → Type 0
TurnReady head entries cap None = Unit {0}
TurnReady head entries cap (Some t) = IsKind t.verdict.kind × StageReady head entries cap t.verdict.entry t.stage
