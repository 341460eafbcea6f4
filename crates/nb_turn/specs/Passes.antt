-- A pass as contracts see it.
use Rattle.std.specs.Prelude.{◌≡◌}
pub use Rattle.atomic_table.specs.Seated.{TableId}
use Rattle.nb_turn.specs.declared.chronicle.View.{View}
use Rattle.nb_turn.specs.declared.chronicle.Chronicle.{Ghosts}
use Rattle.nb_turn.specs.declared.types.Turn.{Turn}
use Rattle.nb_turn.specs.declared.types.Pass.{Pass}
use Rattle.nb_turn.specs.declared.types.Held.{Held}

-- which turn it is
abbrev pub turn_id : {T O L : Type 0} → Turn T O L → TableId
turn_id t = t.table.shared.table_id

-- it is the same turn
abbrev pub IsSame : {T O L : Type 0} → Turn T O L → Turn T O L → Type 0
IsSame s t = turn_id s ≡ turn_id t

module _ {T O L : Type 0} {d : Ghosts T O L} where
  -- what the pass knows
  abbrev pub sees : Pass T O L d → View O L
  sees p = p.seat.me.0

  -- which turn a pass is of
  abbrev pub turn_of : Pass T O L d → TableId
  turn_of p = p.seat.table_id

  -- the pass is one of this turn
  abbrev pub Belongs : Pass T O L d → Turn T O L → Type 0
  Belongs p t = turn_of p ≡ turn_id t

  -- what the pass that has the turn knows
  abbrev pub held_sees : Held T O L d → View O L
  held_sees h = h.hold.seat.me.0

  -- the value was taken from this turn
  abbrev pub IsOf : Held T O L d → Turn T O L → Type 0
  IsOf h t = h.hold.seat.table_id ≡ turn_id t
