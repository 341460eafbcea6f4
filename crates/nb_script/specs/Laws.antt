-- What holds of every script.
use Rattle.std.specs.Prelude.{◌≡◌, ◌↔◌, ℕ, ◌<◌, ◌≤◌, ◌^◌, List, [], ◌∷◌, ◌++◌, Some, Result, Ok}
use Rattle.std.specs.Fmt.{decimal}
use Rattle.nb_units.specs.declared.frames.TheConstants.{LAST_KIND}
use Rattle.nb_script.specs.declared.limits.TheConstants.{MAX_SCRIPT, MAX_LINES, MAX_SCRIPT_CAP, MAX_LENGTH, MAX_ALL_GOODS, MAX_BODY_DIGITS, SPACE, LINE_FEED}
use Rattle.nb_script.specs.Words.{parts, number_in}
use Rattle.nb_script.specs.Settings.{Setting, AreSold}
use Rattle.nb_script.specs.Reads.{ScriptSays}

-- parts, with a mark between two of them
abbrev pub joined : ℕ → List (List ℕ) → List ℕ
joined mark [] = []
joined mark (part ∷ []) = part
joined mark (part ∷ next ∷ more) = part ++ mark ∷ joined mark (next ∷ more)

-- the parts of bytes, joined, are the bytes
abbrev pub PartsJoin : Type 0
PartsJoin = (mark : ℕ) (bytes : List ℕ) → joined mark (parts mark bytes) ≡ bytes

-- a word is a number within limits exactly where it is written so
abbrev pub NumbersAreDecimal : Type 0
NumbersAreDecimal = (least most : ℕ) (word : List ℕ) (n : ℕ) → most < 2 ^ 64 → (number_in least most word ≡ Some n) ↔ ((word ≡ decimal n) × (least ≤ n) × (n ≤ most))

-- no lines say two things, nor one and a first bad line, nor have two first bad lines
abbrev pub OneReading : Type 0
OneReading = (lines : List (List ℕ)) (a b : Result Setting ℕ) → ScriptSays lines a → ScriptSays lines b → a ≡ b

-- what is sold has its price and its length within their limits, all goods together stay within theirs, and no merchant sells two products of one number
abbrev pub ScriptsHaveShelves : Type 0
ScriptsHaveShelves = (lines : List (List ℕ)) (s : Setting) → ScriptSays lines (Ok s) → AreSold s.shelves

-- the limits in numbers; the marks behind a word and a line; the last kind of a packet
abbrev pub ScriptLimitsAre : Type 0
ScriptLimitsAre = (MAX_SCRIPT ≡ 1048576) × (MAX_LINES ≡ 10000) × (MAX_SCRIPT_CAP ≡ 10000) × (MAX_LENGTH ≡ 2000000) × (MAX_ALL_GOODS ≡ 268435456) × (MAX_BODY_DIGITS ≡ 2000)
    × (SPACE ≡ 32) × (LINE_FEED ≡ 10) × (LAST_KIND ≡ 16)
