-- What one caller was answered over several turns, among the lines of all.
use Rattle.std.specs.Prelude.{◌≡◌, ℕ, ◌≤◌, List, [], ◌∷◌, ◌++◌, length}
use Rattle.std.specs.List.{flat_map}
use Rattle.nb_entry.specs.declared.entry.Entry.{Entry}
use Rattle.nb_turns.specs.declared.line.Line.{Line}
use Rattle.nb_turns.specs.declared.mark.Mark.{Mark}
use Rattle.nb_turns.specs.declared.mark.Mark.TheVariants.{At}
use Rattle.nb_turns.specs.Turns.{Request, House, Outcome, Answered, FitTurn, answered, with_entry}
use Rattle.nb_turns.specs.Lines.{AddsLines, AreBelow, lines_by, next_turn}

-- one turn of a caller: the requests, how it went, the lines of others since its last turn, and its own lines
pub record Turned : Type 0 where
  pub requests : List Request
  pub outcome : Outcome
  pub others : List Line
  pub added : List Line

-- the turn follows these lines: the others' lines are not the caller's, all lines before it are of turns with lower numbers than
-- its own, and its lines are those of a turn that went so
pub record Follows (house : House) (opening : List Entry) (by : ℕ) (first : List Line) (t : Turned) : Type 0 where
  pub fits : FitTurn t.requests
  pub alone : lines_by by t.others ≡ []
  pub fresh : AreBelow (next_turn (first ++ t.others)) (first ++ t.others)
  pub lines : AddsLines house opening by (next_turn (first ++ t.others)) (first ++ t.others) t.requests t.outcome t.added

-- the lines behind it
abbrev pub behind : List Line → Turned → List Line
behind first t = (first ++ t.others) ++ t.added

-- over the lines that a caller had seen first it was answered by these turns, and had seen these lines last
abbrev pub AnsweredTurns : House → List Entry → ℕ → List Line → List Turned → List Line → Type 0
AnsweredTurns house opening by first [] last = last ≡ first
AnsweredTurns house opening by first (t ∷ more) last = Follows house opening by first t × AnsweredTurns house opening by (behind first t) more last

-- the lines since then, the others' and its own
abbrev pub lines_since : List Turned → List Line
lines_since turns = flat_map (λ (t : Turned). t.others ++ t.added) turns

-- its own lines
abbrev pub own_lines : List Turned → List Line
own_lines turns = flat_map (λ (t : Turned). t.added) turns

-- what came of all its requests
abbrev pub answers_in : House → List Turned → List Answered
answers_in house turns = flat_map (λ (t : Turned). answered house t.requests t.outcome) turns

-- ---- places

-- the verdict on a request that was decided was taken over the first entries of a list, as many as its place and not fewer than
-- least. The entry that it records, if any, is the next one there, and the reply is the verdict's
pub record Taken (house : House) (entries : List Entry) (least place : ℕ) (a : Answered) : Type 0 where
  pub over : List Entry
  pub later : List Entry
  pub above : least ≤ place
  pub place_is : place ≡ length over
  pub stands : entries ≡ with_entry house over a.request ++ later
  pub told : a.reply ≡ (house.rules over a.request).reply

-- so it is where it was decided, and then rest holds of the least place of the next one
abbrev pub TakenBy : House → List Entry → ℕ → Answered → Mark → (ℕ → Type 0) → Type 0
TakenBy house entries least a (At place) rest = (t : Taken house entries least place a) × rest (length (with_entry house t.over a.request))
TakenBy house entries least a other rest = rest least

-- so it is of each that was decided, one after another: places never fall, and behind an entry they are above its own
abbrev pub AreTaken : House → List Entry → ℕ → List Answered → Type 0
AreTaken house entries least [] = Unit {0}
AreTaken house entries least (a ∷ more) = TakenBy house entries least a a.mark (λ (next : ℕ). AreTaken house entries next more)
