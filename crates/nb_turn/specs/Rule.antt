-- The rule of the table: what holds of its three words, its one slot and all views between any two steps.
use Rattle.std.specs.Prelude.{◌≡◌, ℕ, ◌<◌, true, List, length, slice_index, Option, Some}
use Rattle.std.specs.Int.{bit_at}
use mathlib.Core.Option.{some}
use mathlib.Core.Option as maybe
use lib.ListN.{get_elem?}
use Rattle.atomic_table.specs.Table.{State}
use Rattle.nb_turn.specs.declared.chronicle.View.{View}
use Rattle.nb_turn.specs.Lines.{StartsWith, Lone}

-- the view of this seat holds the turn
abbrev pub IsHolder : {O L : Type 0} → List (View O L) → ℕ → Type 0
IsHolder {O} {L} views holder = (v : View O L) × (get_elem? views holder ≡ some v) × (v.holds ≡ true)

-- What holds of the view of the seat id. Each part's number stands in this view and at this place alone. What its pass had seen
-- last begins the history and what the seat has seen; the history has no line of the number behind it
pub record Knows {O L : Type 0} (maker : L → ℕ) (start : O) (turn bits : ℕ) (history : List L) (holder : ℕ) (owner : ℕ → ℕ × ℕ) (id : ℕ) (v : View O L) : Type 0 where
  pub origin_is : (o : O) → v.origin ≡ Some o → o ≡ start
  pub seen_is : StartsWith history v.seen
  pub holds_is : v.holds ≡ true → (id ≡ holder) × (turn ≡ 1) × (v.seen ≡ history) × (0 < length v.parts)
  pub parts_are : (k : ℕ) (p : ℕ × List L) → get_elem? v.parts k ≡ some p → (owner p.0 ≡ (id, k)) × Lone maker p.0 history p.1 × StartsWith v.seen p.1 × (bit_at bits p.0 ≡ 1)

-- Word 0 is 1 where one view holds the turn, and else 0. Word 1 counts the history. Word 2 has the bit of each number that made
-- a line of the history. Where the turn is free the value is in its slot, has the origin and the history; where it is held the
-- slot is out with a seat
pub record KeptWith {T O L : Type 0} (origin : T → O) (history_of : T → List L) (maker : L → ℕ) (start : O) (history : List L) (holder : ℕ) (owner : ℕ → ℕ × ℕ) (turn count bits : ℕ)
    (homes : List (maybe.Option (Option T))) (views : List (View O L)) : Type 0 where
  pub turn_is : turn < 2
  pub held_is : turn ≡ 1 → IsHolder views holder
  pub count_is : count ≡ length history
  pub home_is : turn ≡ 0 → (value : T) × (get_elem? homes 0 ≡ some (some (Some value))) × (origin value ≡ start) × (history_of value ≡ history)
  pub out_is : turn ≡ 1 → get_elem? homes 0 ≡ some maybe.none
  pub bits_are : (k : ℕ) (l : L) → get_elem? history k ≡ some l → bit_at bits (maker l) ≡ 1
  pub each : (id : ℕ) (v : View O L) → get_elem? views id ≡ some v → Knows maker start turn bits history holder owner id v

module _ {T O L : Type 0} (origin : T → O) (history_of : T → List L) (maker : L → ℕ) (start : O) where
  -- there is one history, one who may hold the turn, and one place for each number
  abbrev pub KeptAt : ℕ → ℕ → ℕ → List (maybe.Option (Option T)) → List (View O L) → Type 0
  KeptAt turn count bits homes views = (history : List L) × (holder : ℕ) × (owner : ℕ → ℕ × ℕ) × KeptWith origin history_of maker start history holder owner turn count bits homes views

  -- so it is of a state of the table, which has three words
  abbrev pub Kept : State (Option T) (View O L) → Type 0
  Kept s = (length s.words ≡ 3) × KeptAt (slice_index s.words 0) (slice_index s.words 1) (slice_index s.words 2) s.homes s.views
