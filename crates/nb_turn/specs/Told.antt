-- What each kind of step tells the seat that makes it: of its view and slot before, the value found, and its view and slot after.
use Rattle.std.specs.Prelude.{◌≡◌, ℕ, ◌<◌, ◌^◌, List, [], ◌∷◌, ◌++◌, Option, Some}
use Rattle.std.specs.Int.{bit_at}
use Rattle.std.specs.List.{AllByRecursion}
use Rattle.atomic_table.specs.Table.{Me, Step}
use Rattle.nb_turn.specs.declared.chronicle.View.{View}
use Rattle.nb_turn.specs.Lines.{LonePart, OwnAre, NoneBy, lines_by}
use Rattle.nb_turn.specs.Views.{reseen, found_one, found_more, took, gave, named, Settled}

module _ {T O L : Type 0} (origin : T → O) (history_of : T → List L) (maker : L → ℕ) where
  -- The value at taking, against what the pass knew: it has the pass's origin, and its lines begin with all that the pass had
  -- seen. For the pass and each one joined into it they begin with what that one had seen last, behind which stands no line of
  -- its number, so that its own lines are exactly those of its number
  pub record Meets (v : View O L) (value : T) : Type 0 where
    pub others : List L
    pub origin_is : v.origin ≡ Some (origin value)
    pub begins : history_of value ≡ v.seen ++ others
    pub alone : AllByRecursion (NoneBy maker others) v.parts
    pub parts : AllByRecursion (LonePart maker (history_of value)) v.parts
    pub own : AllByRecursion (OwnAre maker (history_of value)) v.parts

-- one swap found the turn free, and the pass has seen all lines of the value
abbrev pub TakenOnce : {T O L : Type 0} → (T → O) → (T → List L) → (L → ℕ) → View O L → View O L → T → Type 0
TakenOnce origin history_of maker v w value = (w ≡ took (history_of value) v) × Meets origin history_of maker v value

-- the same after any number of swaps that found the turn held
abbrev pub TakenAtLast : {T O L : Type 0} → (T → O) → (T → List L) → (L → ℕ) → View O L → View O L → T → Type 0
TakenAtLast origin history_of maker v w value =
    ((more : List (ℕ × ℕ)) × AllByRecursion (λ (f : ℕ × ℕ). f ≡ (0, 1)) more × (w ≡ took (history_of value) (found_more more v))) × Meets origin history_of maker v value

module _ {T O L : Type 0} (origin : T → O) (history_of : T → List L) (maker : L → ℕ) where
  -- a swap of 1 into the word of the turn: where it finds 0 the slot with the value is out with the seat
  abbrev pub Takes : Step (Option T) → Me (Option T) (View O L) → ℕ → Me (Option T) (View O L) → Type 0
  Takes st m n m' =
      (n < 2) × (n ≡ 0 → (value : T) × (m'.1 ≡ (0, Some value) ∷ []) × TakenOnce origin history_of maker m.0 m'.0 value) × (n ≡ 1 → (m'.1 ≡ []) × (m'.0 ≡ found_one 0 1 m.0))

module _ {T O L : Type 0} (maker : L → ℕ) where
  -- a swap of 0 into the word of the turn: the slot goes back
  abbrev pub Frees : Step (Option T) → Me (Option T) (View O L) → ℕ → Me (Option T) (View O L) → Type 0
  Frees st m n m' = (m'.1 ≡ []) × (m'.0 ≡ gave m.0) × Settled maker m.0

  -- the setting of one bit in the word of numbers
  abbrev pub Claims : Step (Option T) → Me (Option T) (View O L) → ℕ → Me (Option T) (View O L) → Type 0
  Claims st m n m' =
      (number : ℕ) × (st.first ≡ 2 ^ number) × (m'.1 ≡ []) × (bit_at n number ≡ 1 → m'.0 ≡ found_one 2 n m.0)
      × (bit_at n number ≡ 0 → (m'.0 ≡ named number n m.0) × (lines_by maker number m.0.seen ≡ []))

  -- a load of the word of the turn, which changes nothing
  abbrev pub Settles : Step (Option T) → Me (Option T) (View O L) → ℕ → Me (Option T) (View O L) → Type 0
  Settles st m n m' = (m'.1 ≡ m.1) × (m'.0 ≡ m.0) × Settled maker m.0

-- an addition of 1 to the count, for one line
abbrev pub Counts : {T O L : Type 0} → List L → Step (Option T) → Me (Option T) (View O L) → ℕ → Me (Option T) (View O L) → Type 0
Counts line st m n m' = (m'.1 ≡ m.1) × (m'.0 ≡ reseen (m.0.seen ++ line) m.0)
