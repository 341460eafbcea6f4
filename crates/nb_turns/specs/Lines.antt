-- The lines that a house keeps: what was done since it was opened, in order, and which lines one turn adds.
use Rattle.std.specs.Prelude.{◌≡◌, ◌≢◌, ℕ, ◌+◌, ◌<◌, ◌≤◌, ◌==◌, ◌⊎◌, Bool, true, false, List, [], ◌∷◌, ◌++◌, Option, None, Some, length, map, drop, reverse}
use Rattle.std.specs.List.{flat_map, filter, filter_map, take_while, prefix_len, count_by, AllByRecursion}
use Rattle.std.specs.Option.{option_to_list}
use Rattle.nb_port.specs.Faults.{Failure}
use Rattle.nb_entry.specs.declared.entry.Entry.{Entry}
use Rattle.nb_turns.specs.declared.limits.TheConstants.{MAX_FAULTS, MAX_REQUESTS}
use Rattle.nb_turns.specs.declared.line.Line.{Line}
use Rattle.nb_turns.specs.declared.line.Line.TheVariants.{Commit, Adopted, Doubt, Fault}
use Rattle.nb_turns.specs.Turns.{Request, House, State, Outcome, Decides, Fails, Refuses, recorded}

-- ---- one line

-- the number of who asked
abbrev pub maker_of : Line → ℕ
maker_of (Commit by turn entry) = by
maker_of (Adopted by turn entry) = by
maker_of (Doubt by turn entry) = by
maker_of (Fault by turn before after) = by

-- the number of its turn
abbrev pub turn_of : Line → ℕ
turn_of (Commit by turn entry) = turn
turn_of (Adopted by turn entry) = turn
turn_of (Doubt by turn entry) = turn
turn_of (Fault by turn before after) = turn

-- the entry that it records
abbrev pub entry_of : Line → Option Entry
entry_of (Commit by turn entry) = Some entry
entry_of (Adopted by turn entry) = Some entry
entry_of other = None

-- the entry that is in doubt
abbrev pub doubted : Line → Option Entry
doubted (Doubt by turn entry) = Some entry
doubted other = None

-- the counts of the disk's faults between which it failed
abbrev pub failure_in : Line → Option Failure
failure_in (Fault by turn before after) = Some (record { before = before; after = after })
failure_in other = None

-- the entry that was in doubt and is kept
abbrev pub adopted : Line → Option Entry
adopted (Adopted by turn entry) = Some entry
adopted other = None

-- whether a line keeps the entry that was in doubt
abbrev pub is_adopted : Line → Bool
is_adopted (Adopted by turn entry) = true
is_adopted other = false

-- whether a line tells an entry that came in doubt
abbrev pub is_doubt : Line → Bool
is_doubt (Doubt by turn entry) = true
is_doubt other = false

-- whether a line tells that the disk failed
abbrev pub is_fault : Line → Bool
is_fault (Fault by turn before after) = true
is_fault other = false

-- ---- all lines

-- what is recorded behind these lines: the entries at opening, and then those that the lines record
abbrev pub entries_of : List Entry → List Line → List Entry
entries_of opening lines = opening ++ filter_map entry_of lines

-- the failures of the disk that they tell, in their order
abbrev pub failures_in : List Line → List Failure
failures_in lines = flat_map (λ (line : Line). option_to_list (failure_in line)) lines

-- how many turns failed
abbrev pub faults_of : List Line → ℕ
faults_of lines = count_by is_fault lines

-- the lines from the newest on, without the faults that stand last
abbrev pub before_faults : List Line → List Line
before_faults lines = drop (prefix_len is_fault (reverse lines)) (reverse lines)

-- the entries that were last in doubt: those of the last neighbouring doubts, where no entry was recorded since. Settling may have
-- dropped them: which of the two it did is told by the lines of the next turn
abbrev pub open_doubt : List Line → List Entry
open_doubt lines = reverse (filter_map doubted (take_while is_doubt (before_faults lines)))

-- the number of the next turn, from the newest line on
abbrev pub one_above : List Line → ℕ
one_above [] = 0
one_above (line ∷ older) = turn_of line + 1

-- the number of the next turn behind a list of lines
abbrev pub next_turn : List Line → ℕ
next_turn lines = one_above (reverse lines)

-- all of these are of one turn, and one asked for them
abbrev pub AreOf : ℕ → ℕ → List Line → Type 0
AreOf by turn lines = AllByRecursion (λ (line : Line). (maker_of line ≡ by) × (turn_of line ≡ turn)) lines

-- the turns of all of these have lower numbers
abbrev pub AreBelow : ℕ → List Line → Type 0
AreBelow turn lines = AllByRecursion (λ (line : Line). turn_of line < turn) lines

-- the lines that this one asked for
abbrev pub lines_by : ℕ → List Line → List Line
lines_by by lines = filter (λ (line : Line). maker_of line == by) lines

-- the first of these, if there is one, fails the test
abbrev pub FirstFails : {A : Type 0} → (A → Bool) → List A → Type 0
FirstFails test [] = Unit {0}
FirstFails test (x ∷ xs) = test x ≡ false

-- the newest of these lines is none of a doubt, as behind every turn
abbrev pub IsClosed : List Line → Type 0
IsClosed lines = FirstFails is_doubt (reverse lines)

-- the state is one over these lines: their entries and faults, and nothing in doubt or what they tell to be
pub record StateOver (opening : List Entry) (lines : List Line) (state : State) : Type 0 where
  pub entries : state.entries ≡ entries_of opening lines
  pub doubt : (state.doubt ≡ []) ⊎ (state.doubt ≡ open_doubt lines)
  pub faults : state.faults ≡ faults_of lines

-- neighbours that pass the test, with none of it before or behind them
pub record IsRun (test : Line → Bool) (before run behind : List Line) : Type 0 where
  pub some : run ≢ []
  pub all : AllByRecursion (λ (line : Line). test line ≡ true) run
  pub first : FirstFails test (reverse before)
  pub last : FirstFails test behind

-- neighbouring lines that adopt have exactly the entries that were last in doubt before them
abbrev pub Sound : List Line → Type 0
Sound lines = (before run behind : List Line) → lines ≡ before ++ (run ++ behind) → IsRun is_adopted before run behind → filter_map adopted run ≡ open_doubt before

-- the numbers of the turns never fall
abbrev pub NeverFall : List Line → Type 0
NeverFall [] = Unit {0}
NeverFall (line ∷ lines) = AllByRecursion (λ (later : Line). turn_of line ≤ turn_of later) lines × NeverFall lines

-- ---- one turn

-- the lines of entries that were in doubt and are kept
abbrev pub adopts : ℕ → ℕ → List Entry → List Line
adopts by turn entries = map (λ (entry : Entry). Adopted by turn entry) entries

-- the lines of entries that are recorded
abbrev pub commits : ℕ → ℕ → List Entry → List Line
commits by turn entries = map (λ (entry : Entry). Commit by turn entry) entries

-- the lines of entries that are in doubt
abbrev pub doubts : ℕ → ℕ → List Entry → List Line
doubts by turn entries = map (λ (entry : Entry). Doubt by turn entry) entries

-- what was in doubt over these lines was kept or dropped, whole, and the first verdict is over these entries
pub record Settled (opening : List Entry) (before : List Line) (kept over : List Entry) : Type 0 where
  pub of_doubt : (kept ≡ []) ⊎ (kept ≡ open_doubt before)
  pub most : length kept ≤ MAX_REQUESTS
  pub over_is : over ≡ entries_of opening before ++ kept

-- a turn that decided: the lines of what is kept, and then those of what the verdicts record
pub record DecidedLines (house : House) (opening : List Entry) (by turn : ℕ) (before : List Line) (requests : List Request) (over : List Entry) (added : List Line) : Type 0 where
  pub few : faults_of before < MAX_FAULTS
  pub kept : List Entry
  pub settled : Settled opening before kept over
  pub lines : added ≡ adopts by turn kept ++ commits by turn (recorded house over requests)

-- a turn whose entries could not be made durable: the lines of what is kept, those of what is in doubt now, and the fault
pub record DoubtedLines (house : House) (opening : List Entry) (by turn : ℕ) (before : List Line) (requests : List Request) (from to : ℕ) (added : List Line) : Type 0 where
  pub kept : List Entry
  pub over : List Entry
  pub settled : Settled opening before kept over
  pub some : recorded house over requests ≢ []
  pub lines : added ≡ adopts by turn kept ++ (doubts by turn (recorded house over requests) ++ Fault by turn from to ∷ [])

-- a turn that could not settle what was in doubt: the fault alone
pub record UnsettledLines (by turn : ℕ) (before : List Line) (from to : ℕ) (added : List Line) : Type 0 where
  pub some : open_doubt before ≢ []
  pub lines : added ≡ Fault by turn from to ∷ []

-- the lines that a turn which went so adds to those before it
abbrev pub AddsLines : House → List Entry → ℕ → ℕ → List Line → List Request → Outcome → List Line → Type 0
AddsLines house opening by turn before requests (Decides over) added = DecidedLines house opening by turn before requests over added
AddsLines house opening by turn before requests (Fails from to) added =
    (faults_of before < MAX_FAULTS) × (UnsettledLines by turn before from to added ⊎ DoubtedLines house opening by turn before requests from to added)
AddsLines house opening by turn before requests Refuses added = (faults_of before ≡ MAX_FAULTS) × (added ≡ [])
