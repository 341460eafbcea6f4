-- What a consumer tells of a purchase.
use Rattle.std.specs.Prelude.{◌≡◌, ℕ, ◌-◌, List, length, Option, Some, None}
use Rattle.nb_units.specs.declared.width.TheConstants.{SEAL}
use Rattle.nb_goods.specs.Goods.{OpensTo}
use Rattle.nb_body.specs.declared.end.End.{End}
use Rattle.nb_body.specs.declared.end.End.TheVariants as end
use Rattle.nb_consumer.specs.declared.phase.Phase.{Phase}
use Rattle.nb_consumer.specs.declared.phase.Phase.TheVariants as phase
use Rattle.nb_wallet.specs.declared.purchase.Stage.{Stage}
use Rattle.nb_wallet.specs.declared.purchase.Stage.TheVariants as stage
use Rattle.nb_wallet.specs.Purchases.{Purchase}
pub use Rattle.nb_wallet.specs.Purchases.{goods_of}

-- the goods have 32 bytes less than the sealed goods
abbrev pub phase_of : Stage → List ℕ → Phase
phase_of stage.Ticketing sealed = phase.Ticketing
phase_of (stage.Asked pass) sealed = phase.Asked
phase_of (stage.Wanted pass price head) sealed = phase.Wanted
phase_of (stage.Ordered pass order least) sealed = phase.Ordered
phase_of (stage.Paid key) sealed = phase.Paid (length sealed - SEAL)
phase_of (stage.Refused code) sealed = phase.Refused code
phase_of stage.Foul sealed = phase.Foul

-- as an end says it
abbrev pub phase_at : End → Phase
phase_at (end.Paid goods) = phase.Paid (length goods)
phase_at (end.Refused code) = phase.Refused code
phase_at end.Foul = phase.Foul

-- the phase of a purchase, where it is known
abbrev pub phase_in : Option Purchase → Option Phase
phase_in (Some p) = Some (phase_of p.stage p.held)
phase_in None = None

-- a purchase of this phase is known, and has not ended
abbrev pub IsOpen : Option Phase → Type 0
IsOpen (Some phase.Ticketing) = Unit {0}
IsOpen (Some phase.Asked) = Unit {0}
IsOpen (Some phase.Wanted) = Unit {0}
IsOpen (Some phase.Ordered) = Unit {0}
IsOpen other = ⊥

-- it has ended
abbrev pub HasEnded : Option Phase → Type 0
HasEnded (Some (phase.Paid len)) = Unit {0}
HasEnded (Some (phase.Refused code)) = Unit {0}
HasEnded (Some phase.Foul) = Unit {0}
HasEnded other = ⊥

-- the goods that an end tells
abbrev pub goods_at : End → Option (List ℕ)
goods_at (end.Paid goods) = Some goods
goods_at other = None

-- the goods of a purchase that is known and was paid
abbrev pub goods_in : Option Purchase → Option (List ℕ)
goods_in (Some p) = goods_of p.stage p.held
goods_in None = None

-- what is told as the goods: at a paid stage those that its key opens what is held to, and at any other none
abbrev pub AreGoodsAt : Stage → List ℕ → Option (List ℕ) → Type 0
AreGoodsAt (stage.Paid key) held told = (goods : List ℕ) × (told ≡ Some goods) × OpensTo key held goods
AreGoodsAt other held told = told ≡ None

-- so of a purchase, and none of one that is not known
abbrev pub TellsGoods : Option Purchase → Option (List ℕ) → Type 0
TellsGoods (Some p) told = AreGoodsAt p.stage p.held told
TellsGoods None told = told ≡ None
