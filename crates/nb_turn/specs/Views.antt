-- What a pass knows, and how it changes.
use Rattle.std.specs.Prelude.{◌≡◌, ℕ, max, List, [], ◌∷◌, ◌++◌, length, drop, Option, Some, None, true, false}
use Rattle.std.specs.Int.{bit_at}
use mathlib.Core.Option.{some}
use lib.ListN.{get_elem?}
use Rattle.nb_turn.specs.declared.chronicle.View.{View}
use Rattle.nb_turn.specs.Lines.{longer, lines_by}

module _ {L : Type 0} where
  -- the pass of the first number has seen this list
  abbrev pub first_sees : List L → List (ℕ × List L) → List (ℕ × List L)
  first_sees s [] = []
  first_sees s (p ∷ ps) = (p.0, s) ∷ ps

  -- a pass's number is the first, and a seat without a number has none
  abbrev pub number_of : List (ℕ × List L) → Option ℕ
  number_of [] = None
  number_of (p ∷ ps) = Some p.0

  -- how many lines were seen by the pass that had seen most
  abbrev pub most_seen : List (ℕ × List L) → ℕ
  most_seen [] = 0
  most_seen (p ∷ ps) = max (length p.1) (most_seen ps)

module _ {O L : Type 0} where
  -- the first pass of all
  abbrev pub fresh_view : O → View O L
  fresh_view o = record { origin = Some o; seen = []; parts = (0, []) ∷ []; found = []; holds = false }

  -- a seat that was joined away
  abbrev pub spent_view : View O L
  spent_view = record { origin = None; seen = []; parts = []; found = []; holds = false }

  -- a seat split off, which has no number yet
  abbrev pub newcomer : View O L → View O L
  newcomer v = record { origin = v.origin; seen = v.seen; parts = []; found = []; holds = false }

  -- it has seen this list
  abbrev pub reseen : List L → View O L → View O L
  reseen s v = record { origin = v.origin; seen = s; parts = first_sees s v.parts; found = v.found; holds = v.holds }

  -- it found this value in this word
  abbrev pub found_one : ℕ → ℕ → View O L → View O L
  found_one word value v = record { origin = v.origin; seen = v.seen; parts = v.parts; found = v.found ++ (word, value) ∷ []; holds = v.holds }

  -- it found these values
  abbrev pub found_more : List (ℕ × ℕ) → View O L → View O L
  found_more more v = record { origin = v.origin; seen = v.seen; parts = v.parts; found = v.found ++ more; holds = v.holds }

  -- it found the turn free and took it, over a value of these lines
  abbrev pub took : List L → View O L → View O L
  took s v = record { origin = v.origin; seen = s; parts = first_sees s v.parts; found = v.found ++ (0, 0) ∷ []; holds = true }

  -- it gave the turn back
  abbrev pub gave : View O L → View O L
  gave v = record { origin = v.origin; seen = v.seen; parts = v.parts; found = v.found; holds = false }

  -- it found the number's bit clear in the word of numbers, and has that number
  abbrev pub named : ℕ → ℕ → View O L → View O L
  named number value v = record { origin = v.origin; seen = v.seen; parts = (number, v.seen) ∷ []; found = v.found ++ (2, value) ∷ []; holds = v.holds }

  -- what was split off knows what the other did, under a number whose bit was clear in the word that it found
  abbrev pub SplitOff : ℕ → View O L → View O L → Type 0
  SplitOff number v w = (word : ℕ) × (bit_at word number ≡ 0) × (w ≡ named number word (newcomer v))

  -- the bit was set in the word that it found, which is this
  abbrev pub FindsTaken : ℕ → ℕ → View O L → View O L → Type 0
  FindsTaken word number v w = (bit_at word number ≡ 1) × (w ≡ found_one 2 word v)

  -- the first, with the second joined into it
  abbrev pub joined : View O L → View O L → View O L
  joined v w = record { origin = v.origin; seen = longer v.seen w.seen; parts = v.parts ++ w.parts; found = v.found ++ w.found; holds = v.holds }

  -- the list that it has seen begins with what each part had seen last, and behind that stands no line of that number
  abbrev pub Settled : (L → ℕ) → View O L → Type 0
  Settled maker v = (k : ℕ) (p : ℕ × List L) → get_elem? v.parts k ≡ some p
      → (v.seen ≡ p.1 ++ drop (length p.1) v.seen) × (lines_by maker p.0 (drop (length p.1) v.seen) ≡ [])
