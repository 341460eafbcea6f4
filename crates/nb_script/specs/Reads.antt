-- What a script says, or its first bad line.
use Rattle.std.specs.Prelude.{◌≡◌, ◌⊎◌, ℕ, ◌+◌, ◌≤◌, ◌==◌, Bool, true, false, List, [], ◌∷◌, length, Option, Some, None, Result, Ok, Err, if◌then◌else◌, ⊤}
use Rattle.nb_script.specs.declared.fault.PlayFault.{PlayFault}
use Rattle.nb_script.specs.declared.fault.PlayFault.TheVariants.{BadLine, NoMemory}
use Rattle.nb_script.specs.declared.limits.TheConstants.{LINE_FEED, MAX_LINES}
use Rattle.nb_script.specs.declared.line.Line.{Line}
use Rattle.nb_script.specs.declared.script.Script.{Script}
use Rattle.nb_script.specs.Words.{parts, words_of}
use Rattle.nb_script.specs.Lines.{head_in, cap_in, line_in}
use Rattle.nb_script.specs.Settings.{Setting, bare, setting_of, MayFollow, behind}

-- the lines of a text, and behind them what stands behind the last line feed
abbrev pub lines_of : List ℕ → List (List ℕ)
lines_of text = parts LINE_FEED text

-- the bytes say this, which may stand as the line of this number
pub record Stands (s : Setting) (number : ℕ) (bytes : List ℕ) (l : Line) : Type 0 where
  pub few : number ≤ MAX_LINES
  pub says : line_in (words_of bytes) ≡ Some l
  pub may : MayFollow s number l

-- the lines behind so many say this, or the first bad one has this number: each line is taken where it may stand, and is bad elsewhere; what is left behind
-- the last line feed is nothing, or a bad line
abbrev pub LinesSay : Setting → ℕ → List (List ℕ) → Result Setting ℕ → Type 0
LinesSay s before [] told = ⊥
LinesSay s before (rest ∷ []) told = told ≡ (if length rest == 0 then Ok s else Err (before + 1))
LinesSay s before (bytes ∷ next ∷ more) told =
    ((l : Line) × Stands s (before + 1) bytes l × LinesSay (behind s (before + 1) l) (before + 1) (next ∷ more) told)
    ⊎ (((l : Line) → ¬ Stands s (before + 1) bytes l) × (told ≡ Err (before + 1)))

-- what the first line says as the house's; none where it does not end
abbrev pub first_head : List (List ℕ) → Option (List ℕ)
first_head (bytes ∷ next ∷ more) = head_in (words_of bytes)
first_head few = None

-- what the second line says as the house's cap
abbrev pub second_cap : List (List ℕ) → Option ℕ
second_cap (first ∷ bytes ∷ next ∷ more) = cap_in (words_of bytes)
second_cap few = None

-- the lines behind the first two
abbrev pub behind_two : List (List ℕ) → List (List ℕ)
behind_two (first ∷ second ∷ more) = more
behind_two few = []

-- the lines say a house's head, its cap, and what stands behind these, or the first bad one has this number
abbrev pub HeadSays : Option (List ℕ) → Option ℕ → List (List ℕ) → Result Setting ℕ → Type 0
HeadSays None cap more told = told ≡ Err 1
HeadSays (Some head) None more told = told ≡ Err 2
HeadSays (Some head) (Some cap) more told = LinesSay (bare head cap) 2 more told

-- so of all lines of a text
abbrev pub ScriptSays : List (List ℕ) → Result Setting ℕ → Type 0
ScriptSays lines told = HeadSays (first_head lines) (second_cap lines) (behind_two lines) told

-- the bytes spell this script, or the line of this number is the first bad one; of want of memory nothing is said
abbrev pub ReadsScript : List ℕ → Result Script PlayFault → Type 0
ReadsScript text (Ok s) = ScriptSays (lines_of text) (Ok (setting_of s))
ReadsScript text (Err (BadLine n)) = ScriptSays (lines_of text) (Err n)
ReadsScript text (Err NoMemory) = ⊤

-- ---- for the contracts of private functions alone

-- the lines behind the first two led from one setting to another, or the first bad one was told
abbrev pub ReadsRest : Setting → List ℕ → Setting → Result (Unit {0}) PlayFault → Type 0
ReadsRest s text t (Ok done) = LinesSay s 2 (lines_of text) (Ok t)
ReadsRest s text t (Err (BadLine n)) = LinesSay s 2 (lines_of text) (Err n)
ReadsRest s text t (Err NoMemory) = ⊤

-- a line was taken exactly where it says what may stand there
abbrev pub TakesLine : Setting → ℕ → List ℕ → Setting → Bool → Type 0
TakesLine s number bytes t true = (l : Line) × (line_in (words_of bytes) ≡ Some l) × MayFollow s number l × (t ≡ behind s number l)
TakesLine s number bytes t false = (l : Line) → line_in (words_of bytes) ≡ Some l → ¬ MayFollow s number l
