-- What holds of the seat in a pass, and of that of a pass that has the turn.
use Rattle.std.specs.Prelude.{◌≡◌, ℕ, ◌+◌, ◌<◌, ◌^◌, List, [], ◌∷◌, length, is_some, Option, Some, None, true, false}
use Rattle.atomic_table.specs.Table.{Me}
use Rattle.nb_turn.specs.declared.chronicle.View.{View}
use Rattle.nb_turn.specs.Views.{first_sees, number_of, most_seen, Settled}

-- it holds neither the turn nor the slot; one of its parts had last seen all that it has seen
pub record IsPass {S O L : Type 0} (maker : L → ℕ) (me : Me S (View O L)) (number seen : ℕ) : Type 0 where
  pub empty : me.1 ≡ []
  pub idle : me.0.holds ≡ false
  pub from : is_some me.0.origin ≡ true
  pub number_is : number_of me.0.parts ≡ Some number
  pub seen_is : length me.0.seen ≡ seen
  pub most_is : most_seen me.0.parts ≡ length me.0.seen
  pub settled : Settled maker me.0

-- it holds the turn, and its slot is empty; it had last seen all that it has seen
pub record IsHeld {T O L : Type 0} (me : Me (Option T) (View O L)) (number seen : ℕ) : Type 0 where
  pub lifted : me.1 ≡ (0, None) ∷ []
  pub holding : me.0.holds ≡ true
  pub from : is_some me.0.origin ≡ true
  pub number_is : number_of me.0.parts ≡ Some number
  pub seen_is : length me.0.seen ≡ seen
  pub own_is : first_sees me.0.seen me.0.parts ≡ me.0.parts

-- the list is one line, which the pass that holds the turn made, and there is room to count it
abbrev pub IsNext : {O L : Type 0} → (L → ℕ) → View O L → List L → Type 0
IsNext {O} {L} maker v line = (l : L) × (line ≡ l ∷ []) × (number_of v.parts ≡ Some (maker l)) × (v.holds ≡ true) × (length v.seen + 1 < 2 ^ 64)
