-- Lists of lines: their fronts, and the lines of one number.
use Rattle.std.specs.Prelude.{◌≡◌, ℕ, ◌==◌, nat_lt, List, [], ◌++◌, length, filter, if◌then◌else◌}

module _ {L : Type 0} where
  -- the list begins with this front
  abbrev pub StartsWith : List L → List L → Type 0
  StartsWith all front = (more : List L) × (all ≡ front ++ more)

  -- the longer of two lists, the first where they are equally long
  abbrev pub longer : List L → List L → List L
  longer a b = if nat_lt (length a) (length b) then b else a

  -- the lines of the pass of this number
  abbrev pub lines_by : (L → ℕ) → ℕ → List L → List L
  lines_by maker n lines = filter (λ l. maker l == n) lines

  -- the list begins with this front, and behind it stands no line of this number
  abbrev pub Lone : (L → ℕ) → ℕ → List L → List L → Type 0
  Lone maker n all front = (more : List L) × (all ≡ front ++ more) × (lines_by maker n more ≡ [])

  -- the same of a number with the lines that its pass had seen last
  abbrev pub LonePart : (L → ℕ) → List L → ℕ × List L → Type 0
  LonePart maker all p = Lone maker p.0 all p.1

  -- a pass's own lines: those of its number among the lines that it had seen last
  abbrev pub own_lines : (L → ℕ) → ℕ × List L → List L
  own_lines maker p = lines_by maker p.0 p.1

  -- its own lines are exactly those of its number in the list
  abbrev pub OwnAre : (L → ℕ) → List L → ℕ × List L → Type 0
  OwnAre maker all p = lines_by maker p.0 all ≡ own_lines maker p

  -- no line of its number stands in the list
  abbrev pub NoneBy : (L → ℕ) → List L → ℕ × List L → Type 0
  NoneBy maker lines p = lines_by maker p.0 lines ≡ []
