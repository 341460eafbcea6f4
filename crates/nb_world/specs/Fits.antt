-- Which events fit a world, in words of what stands in it.
use Rattle.std.specs.Prelude.{◌≡◌, ◌≢◌, ◌⊎◌, ℕ, ◌≤◌, length, None, Some, IsSome, IsTrue}
use Rattle.std.specs.List.{slice_get}
use Rattle.nb_units.specs.declared.limits.TheConstants.{MAX_MEMO}
use Rattle.nb_body.specs.declared.limits.TheConstants.{MAX_REQUEST}
use Rattle.nb_units.specs.declared.ids.PartyId.{PartyId}
use Rattle.nb_units.specs.Frames.{IsFrame}
use Rattle.nb_world.specs.declared.call.Call.{Call}
use Rattle.nb_world.specs.declared.call.CallPhase.TheVariants.{Waiting}
use Rattle.nb_world.specs.declared.event.Event.{Event}
use Rattle.nb_world.specs.declared.event.Event.TheVariants as on
use Rattle.nb_world.specs.declared.packet.Packet.{Packet}
use Rattle.nb_msgs.specs.declared.node.To.{To}
use Rattle.nb_msgs.specs.declared.node.To.TheVariants as to
use Rattle.nb_world.specs.declared.turning.Stage.TheVariants as stage
use Rattle.nb_world.specs.declared.turning.Turning.{Turning}
use Rattle.nb_world.specs.World.{Stays, Rules, World}
use Rattle.nb_world.specs.Steps.{consumer_at, merchant_at}

-- the consumer, the merchant, that is this party
pub record IsConsumer {C M : Type 0} (p : Rules C M) (w : World C M) (id : PartyId) (c : C) : Type 0 where
  pub place : ℕ
  pub first : consumer_at p w id ≡ Some place
  pub stands : slice_get w.consumers place ≡ Some c

-- the first merchant that is this party is this one
pub record IsMerchant {C M : Type 0} (p : Rules C M) (w : World C M) (id : PartyId) (m : M) : Type 0 where
  pub place : ℕ
  pub first : merchant_at p w id ≡ Some place
  pub stands : slice_get w.merchants place ≡ Some m

-- it is the house, or a party that there is in this role
abbrev pub IsKnown : {C M : Type 0} → Rules C M → World C M → To → Type 0
IsKnown p w to.Server = Unit {0}
IsKnown {C} {M} p w (to.Merchant id) = (m : M) × IsMerchant p w id m
IsKnown {C} {M} p w (to.Consumer id) = (c : C) × IsConsumer p w id c

-- the call waits, and its packet is there
pub record Waits {C M : Type 0} (w : World C M) (c : ℕ) : Type 0 where
  pub call : Call
  pub packet : Packet
  pub stands : slice_get w.calls c ≡ Some call
  pub waits : call.phase ≡ Waiting
  pub asks : slice_get w.packets call.packet ≡ Some packet

-- the call has the turn
pub record HasTurn {C M : Type 0} (w : World C M) (c : ℕ) : Type 0 where
  pub turn : Turning
  pub is : w.turn ≡ Some turn
  pub its : turn.call ≡ c

-- the event fits
abbrev pub Fits : {C M : Type 0} → Rules C M → World C M → Event → Type 0
Fits {C} {M} p w (on.Buy id start) = (c : C) × IsConsumer p w id c × (length start.request ≤ MAX_REQUEST) × (length start.memo ≤ MAX_MEMO) × (p.consumer_starts c start ≢ Stays)
Fits p w (on.Deliver k) = (packet : Packet) × (slice_get w.packets k ≡ Some packet) × IsKnown p w packet.to
Fits p w (on.Turn c) = (w.turn ≡ None) × Waits w c
Fits p w (on.Write c) = (has : HasTurn w c) × (has.turn.stage ≡ stage.Decided) × IsSome has.turn.verdict.entry
Fits p w (on.Open c) = (has : HasTurn w c) × (has.turn.stage ≡ stage.Written) × IsSome has.turn.verdict.entry
Fits p w (on.Answer c) = (has : HasTurn w c) × ((has.turn.stage ≡ stage.Opened) ⊎ ((has.turn.stage ≡ stage.Decided) × (has.turn.verdict.entry ≡ None)))
Fits {C} {M} p w (on.QuietConsumer id tid) = (c : C) × IsConsumer p w id c × IsTrue (p.has_purchase tid c)
Fits {C} {M} p w (on.QuietMerchant id consumer tid) = (m : M) × IsMerchant p w id m × IsTrue (p.has_sale consumer tid m)
Fits p w (on.Stop keep) = Unit {0}
Fits {C} {M} p w (on.RestartConsumer id) = (c : C) × IsConsumer p w id c
Fits {C} {M} p w (on.RestartMerchant id) = (m : M) × IsMerchant p w id m
Fits p w (on.Clock moment) = Unit {0}
Fits p w (on.Inject addressee kind body) = IsFrame (record { kind = kind; body = body }) × IsKnown p w addressee
