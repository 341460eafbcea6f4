-- What holds of all turns, of all runs, and of all that a caller was answered.
use Rattle.std.specs.Prelude.{◌≡◌, ◌≢◌, ℕ, ◌+◌, ◌<◌, ◌≤◌, ◌⊎◌, List, [], ◌∷◌, ◌++◌, Some, length, map}
use Rattle.std.specs.List.{count_by, sum_by, AllByRecursion}
use Rattle.std.specs.Option.{option_to_list}
use Rattle.nb_units.specs.declared.epoid.Epoid.{Epoid}
use Rattle.nb_units.specs.declared.ids.AcctId.{AcctId}
use Rattle.nb_entry.specs.declared.entry.Entry.{Entry}
use Rattle.nb_book.specs.Legal.{IsOfRate, LegalAfter, Legal}
use Rattle.nb_book.specs.Money.{accounts, balance, credits, debits, fees, total}
use Rattle.nb_book.specs.Searches.{settles}
use Rattle.nb_turns.specs.declared.limits.TheConstants.{MAX_FAULTS, MAX_REQUESTS}
use Rattle.nb_turns.specs.declared.line.Line.{Line}
use Rattle.nb_turns.specs.declared.mark.Mark.{Mark}
use Rattle.nb_turns.specs.declared.mark.Mark.TheVariants.{At, Fault, Worn}
use Rattle.nb_turns.specs.Turns.{Request, House, State, Outcome, Decides, Fails, Refuses, Answered, Round, SettlesInto, Unsettled, Doubts, Turn, FitTurn, Run, answer_over, answered, answered_in, decided, marks, recorded, failure_of, last_state, IsStateOf, places}
use Rattle.nb_turns.specs.Lines.{AddsLines, AreBelow, AreOf, IsClosed, NeverFall, Sound, StateOver, entries_of, failures_in, faults_of, lines_by, next_turn, open_doubt, turn_of}
use Rattle.nb_turns.specs.Callers.{Turned, AnsweredTurns, AreTaken, answers_in, lines_since, own_lines}

-- the limits of a turn and of a house in numbers, and no turn is without requests
abbrev pub LimitsAre : Type 0
LimitsAre = (MAX_REQUESTS ≡ 32) × (MAX_FAULTS ≡ 1000) × (FitTurn [] → ⊥)

-- ---- one request

-- some turn over these requests gives these answers, and leads to new
pub record TurnTells (house : House) (old : State) (requests : List Request) (answers : List Answered) (new : State) : Type 0 where
  pub outcome : Outcome
  pub turn : Turn house old requests outcome new
  pub told : answers ≡ answered house requests outcome

-- the verdict's reply is given, and its entry is recorded
pub record DecidesOne (house : House) (old : State) (request : Request) (place : ℕ) (reply : List ℕ) (new : State) : Type 0 where
  pub over : List Entry
  pub settled : SettlesInto old over
  pub at : place ≡ length over
  pub told : reply ≡ (house.rules over request).reply
  pub left : new ≡ record { entries = over ++ option_to_list (house.rules over request).entry; doubt = []; faults = old.faults }

-- the verdict's entry could not be made durable, and is in doubt
pub record DoubtsOne (house : House) (old : State) (request : Request) (new : State) : Type 0 where
  pub over : List Entry
  pub entry : Entry
  pub settled : SettlesInto old over
  pub verdict : (house.rules over request).entry ≡ Some entry
  pub left : new ≡ record { entries = over; doubt = entry ∷ []; faults = old.faults + 1 }

-- from old, a house that answers one request at a time may answer it so and go on to new
abbrev pub TurnOfOne : House → State → Request → Mark → List ℕ → State → Type 0
TurnOfOne house old request Worn reply new = (old.faults ≡ MAX_FAULTS) × (reply ≡ house.worn) × (new ≡ old)
TurnOfOne house old request (At place) reply new = (old.faults < MAX_FAULTS) × DecidesOne house old request place reply new
TurnOfOne house old request (Fault before after) reply new =
    (old.faults < MAX_FAULTS) × (reply ≡ house.fault before after) × (Unsettled old new ⊎ DoubtsOne house old request new)

-- the answer to one request
abbrev pub one_answer : Request → Mark → List ℕ → List Answered
one_answer request mark reply = record { request = request; mark = mark; reply = reply } ∷ []

-- a turn of one request is a turn over the list of it, and no other turn is
abbrev pub OneIsTurn : Type 0
OneIsTurn = (house : House) (old new : State) (request : Request) (mark : Mark) (reply : List ℕ)
    → (TurnOfOne house old request mark reply new → TurnTells house old (request ∷ []) (one_answer request mark reply) new)
    × (TurnTells house old (request ∷ []) (one_answer request mark reply) new → TurnOfOne house old request mark reply new)

-- these requests were answered one at a time, and the house came to these states
abbrev pub RunOfOnes : House → State → List Answered → List State → Type 0
RunOfOnes house first [] [] = Unit {0}
RunOfOnes house first (a ∷ more) (next ∷ states) = TurnOfOne house first a.request a.mark a.reply next × RunOfOnes house next more states
RunOfOnes house first [] (next ∷ states) = ⊥
RunOfOnes house first (a ∷ more) [] = ⊥

-- some run gives these answers, and comes to these states
pub record RunTells (house : House) (first : State) (answers : List Answered) (states : List State) : Type 0 where
  pub rounds : List Round
  pub run : Run house first rounds states
  pub told : answers ≡ answered_in house rounds

-- what is answered one at a time is a run
abbrev pub OnesAreRun : Type 0
OnesAreRun = (house : House) (first : State) (answers : List Answered) (states : List State) → RunOfOnes house first answers states → RunTells house first answers states

-- the last state of a run is one that the house was in
abbrev pub LastIsState : Type 0
LastIsState = (first : State) (states : List State) → IsStateOf first states (last_state first states)

-- a run, and one from its last state, are a run
abbrev pub RunThen : Type 0
RunThen = (house : House) (first : State) (rounds more : List Round) (states others : List State)
    → Run house first rounds states → Run house (last_state first states) more others → Run house first (rounds ++ more) (states ++ others)

-- ---- one request more

-- one request more is decided over what is recorded behind those before it; each records at most one entry
abbrev pub OneMore : Type 0
OneMore = (house : House) (over : List Entry) (requests : List Request) (request : Request)
    → (decided house over (requests ++ request ∷ []) ≡ decided house over requests ++ answer_over house (over ++ recorded house over requests) request ∷ [])
    × (recorded house over (requests ++ request ∷ []) ≡ recorded house over requests ++ option_to_list (house.rules (over ++ recorded house over requests) request).entry)
    × (length (recorded house over requests) ≤ length requests)

-- a turn that decided gives a place for each request, and another gives none
abbrev pub HasPlaces : List Request → Outcome → List ℕ → Type 0
HasPlaces requests (Decides over) found = length found ≡ length requests
HasPlaces requests other found = found ≡ []

-- each request of a turn is answered, in their order
abbrev pub EachIsAnswered : Type 0
EachIsAnswered = (house : House) (requests : List Request) (outcome : Outcome)
    → (map (λ (a : Answered). a.request) (answered house requests outcome) ≡ requests)
    × HasPlaces requests outcome (places (answered house requests outcome))

-- ---- failures

-- a turn that failed leaves something in doubt. Where nothing was, its verdicts over the entries record it
abbrev pub FailureLeavesDoubt : Type 0
FailureLeavesDoubt = (house : House) (old new : State) (requests : List Request) (before after : ℕ) → Turn house old requests (Fails before after) new
    → (new.doubt ≢ []) × (old.doubt ≡ [] → recorded house old.entries requests ≢ [])

-- ---- growth

-- behind a turn stand the entries before it, then all that was in doubt or nothing of it, and then at most one entry for each request
pub record Grows (old new : State) (requests : List Request) : Type 0 where
  pub kept : List Entry
  pub made : List Entry
  pub of_doubt : (kept ≡ []) ⊎ (kept ≡ old.doubt)
  pub few : length made ≤ length requests
  pub grows : new.entries ≡ old.entries ++ (kept ++ made)

-- so it is behind every turn
abbrev pub TurnGrows : Type 0
TurnGrows = (house : House) (old new : State) (requests : List Request) (outcome : Outcome) → Turn house old requests outcome new → Grows old new requests

-- the entries of each state of a run begin with those at its start
abbrev pub RunGrows : Type 0
RunGrows = (house : House) (first : State) (rounds : List Round) (states : List State)
    → Run house first rounds states → AllByRecursion (λ (state : State). (more : List Entry) × (state.entries ≡ first.entries ++ more)) states

-- ---- Legal entries

-- what the verdicts over Legal entries record may come next, and there is room for it
abbrev pub IsLawful : House → ℕ → Type 0
IsLawful house cap = (entries : List Entry) (request : Request) (entry : Entry) → Legal entries → (house.rules entries request).entry ≡ Some entry
    → LegalAfter entries entry × (length entries < cap)

-- the entries, also with those in doubt, are Legal and within the cap; those in doubt are an item; few turns failed
pub record IsLegalState (cap : ℕ) (state : State) : Type 0 where
  pub legal : Legal (state.entries ++ state.doubt)
  pub within : length (state.entries ++ state.doubt) ≤ cap
  pub most : length state.doubt ≤ MAX_REQUESTS
  pub few : state.faults ≤ MAX_FAULTS

-- a turn keeps this
abbrev pub TurnKeepsLegal : Type 0
TurnKeepsLegal = (house : House) (cap : ℕ) (old new : State) (requests : List Request) (outcome : Outcome)
    → IsLawful house cap → IsLegalState cap old → FitTurn requests → Turn house old requests outcome new → IsLegalState cap new

-- each state of a run has it
abbrev pub RunKeepsLegal : Type 0
RunKeepsLegal = (house : House) (cap : ℕ) (first : State) (rounds : List Round) (states : List State)
    → IsLawful house cap → IsLegalState cap first → Run house first rounds states → AllByRecursion (IsLegalState cap) states

-- ---- entries of a journal of one version, with one rate

-- what the verdicts record such a journal may have
abbrev pub RecordsOfRate : House → ℕ → ℕ → Type 0
RecordsOfRate house version rate = (entries : List Entry) (request : Request) (entry : Entry) → (house.rules entries request).entry ≡ Some entry → IsOfRate version rate entry

-- such a journal may have each entry, also of those in doubt
abbrev pub IsStateOfRate : ℕ → ℕ → State → Type 0
IsStateOfRate version rate state = AllByRecursion (IsOfRate version rate) (state.entries ++ state.doubt)

-- a turn keeps this
abbrev pub TurnKeepsRate : Type 0
TurnKeepsRate = (house : House) (version rate : ℕ) (old new : State) (requests : List Request) (outcome : Outcome)
    → RecordsOfRate house version rate → IsStateOfRate version rate old → Turn house old requests outcome new → IsStateOfRate version rate new

-- each state of a run has it
abbrev pub RunKeepsRate : Type 0
RunKeepsRate = (house : House) (version rate : ℕ) (first : State) (rounds : List Round) (states : List State)
    → RecordsOfRate house version rate → IsStateOfRate version rate first → Run house first rounds states → AllByRecursion (IsStateOfRate version rate) states

-- ---- money

-- a list on which each order is settled once, and money is neither made nor lost: what the house kept counts too
pub record IsBalanced (entries : List Entry) : Type 0 where
  pub once : (order : Epoid) → count_by (settles order) entries ≤ 1
  pub sums : sum_by (balance entries) (accounts entries) + fees entries ≡ total entries
  pub none_overdrawn : (account : AcctId) → debits entries account ≤ credits entries account

-- the entries of each state of a run are balanced, without those in doubt and with them
abbrev pub RunKeepsMoney : Type 0
RunKeepsMoney = (house : House) (cap : ℕ) (first : State) (rounds : List Round) (states : List State)
    → IsLawful house cap → IsLegalState cap first → Run house first rounds states
    → AllByRecursion (λ (state : State). IsBalanced state.entries × IsBalanced (state.entries ++ state.doubt)) states

-- ---- stops

-- what is on a disk while the entries of the verdicts over these are written behind them, as one item: none of them, or all
abbrev pub WritesBehind : House → List Entry → List Request → List Entry → Type 0
WritesBehind house over requests entries = (entries ≡ over) ⊎ (entries ≡ over ++ recorded house over requests)

-- what is on a disk at some moment of a turn that goes so: before it is settled, or while it writes
abbrev pub StandsWithin : House → State → List Request → Outcome → State → List Entry → Type 0
StandsWithin house old requests (Decides over) new entries = SettlesInto old entries ⊎ WritesBehind house over requests entries
StandsWithin house old requests (Fails before after) new entries =
    SettlesInto old entries ⊎ (Doubts house old requests new × WritesBehind house new.entries requests entries)
StandsWithin house old requests Refuses new entries = SettlesInto old entries

-- it is one of four lists: the entries before the turn or behind it, each without those in doubt then or with them
abbrev pub StopLeaves : Type 0
StopLeaves = (house : House) (old new : State) (requests : List Request) (outcome : Outcome) (entries : List Entry)
    → Turn house old requests outcome new → StandsWithin house old requests outcome new entries → SettlesInto old entries ⊎ SettlesInto new entries

-- ---- the lines of a turn

-- the lines of a turn are of who asked, and have its number
abbrev pub LinesAreOf : Type 0
LinesAreOf = (house : House) (opening : List Entry) (by turn : ℕ) (before : List Line) (requests : List Request) (outcome : Outcome) (added : List Line)
    → AddsLines house opening by turn before requests outcome added → AreOf by turn added

-- lines tell such a turn: there is one from a state over the lines before it to a state over those behind it
pub record TellsTurn (house : House) (opening : List Entry) (before : List Line) (requests : List Request) (outcome : Outcome) (added : List Line) : Type 0 where
  pub old : State
  pub new : State
  pub over_before : StateOver opening before old
  pub over_behind : StateOver opening (before ++ added) new
  pub turn : Turn house old requests outcome new
  pub closed : IsClosed (before ++ added)

-- so do the lines of each turn
abbrev pub LinesTellTurn : Type 0
LinesTellTurn = (house : House) (opening : List Entry) (by turn : ℕ) (before : List Line) (requests : List Request) (outcome : Outcome) (added : List Line)
    → IsClosed before → AddsLines house opening by turn before requests outcome added → TellsTurn house opening before requests outcome added

-- lines that a turn which went so adds, and behind which the house is in this state
pub record TellsState (house : House) (opening : List Entry) (by turn : ℕ) (before : List Line) (requests : List Request) (outcome : Outcome) (new : State) : Type 0 where
  pub added : List Line
  pub adds : AddsLines house opening by turn before requests outcome added
  pub over_behind : StateOver opening (before ++ added) new

-- each turn from a state over the lines before it has lines that tell it: what a turn may do and what lines may tell are the same
abbrev pub TurnAddsLines : Type 0
TurnAddsLines = (house : House) (opening : List Entry) (by turn : ℕ) (before : List Line) (requests : List Request) (outcome : Outcome) (old new : State)
    → IsClosed before → StateOver opening before old → length old.doubt ≤ MAX_REQUESTS → Turn house old requests outcome new
    → TellsState house opening by turn before requests outcome new

-- what the lines record is Legal and within the cap, also with what they tell to be in doubt
pub record AreLegal (cap : ℕ) (opening : List Entry) (lines : List Line) : Type 0 where
  pub legal : Legal (entries_of opening lines ++ open_doubt lines)
  pub within : length (entries_of opening lines ++ open_doubt lines) ≤ cap

-- lines keep this behind each turn. So nothing is in doubt any more behind an entry that is recorded: it would not be Legal there
abbrev pub LinesKeepLegal : Type 0
LinesKeepLegal = (house : House) (cap : ℕ) (opening : List Entry) (by turn : ℕ) (before : List Line) (requests : List Request) (outcome : Outcome) (added : List Line)
    → IsLawful house cap → IsClosed before → AreLegal cap opening before → AddsLines house opening by turn before requests outcome added
    → AreLegal cap opening (before ++ added)

-- lines stay sound behind each turn
abbrev pub LinesStaySound : Type 0
LinesStaySound = (house : House) (opening : List Entry) (by turn : ℕ) (before : List Line) (requests : List Request) (outcome : Outcome) (added : List Line)
    → Sound before → AddsLines house opening by turn before requests outcome added → Sound (before ++ added)

-- of lines whose turns never fall in number each is below the next turn
abbrev pub NextIsAbove : Type 0
NextIsAbove = (lines : List Line) → NeverFall lines → AreBelow (next_turn lines) lines

-- they never fall behind a turn that has the next number
abbrev pub TurnsNeverFall : Type 0
TurnsNeverFall = (house : House) (opening : List Entry) (by : ℕ) (before : List Line) (requests : List Request) (outcome : Outcome) (added : List Line)
    → NeverFall before → AddsLines house opening by (next_turn before) before requests outcome added → NeverFall (before ++ added)

-- the lines of a turn tell its failure, where it failed, and no other
abbrev pub LinesTellFailure : Type 0
LinesTellFailure = (house : House) (opening : List Entry) (by turn : ℕ) (before : List Line) (requests : List Request) (outcome : Outcome) (added : List Line)
    → AddsLines house opening by turn before requests outcome added → failures_in added ≡ option_to_list (failure_of outcome)

-- ---- what a caller was answered

-- what a caller was answered, and then over what it had seen by then, is what it was answered
abbrev pub AnsweredThen : Type 0
AnsweredThen = (house : House) (opening : List Entry) (by : ℕ) (first : List Line) (turns : List Turned) (mid : List Line) (more : List Turned) (last : List Line)
    → AnsweredTurns house opening by first turns mid → AnsweredTurns house opening by mid more last → AnsweredTurns house opening by first (turns ++ more) last

-- what it had seen last begins with what it had seen first, and then come the lines since
abbrev pub SeenGrows : Type 0
SeenGrows = (house : House) (opening : List Entry) (by : ℕ) (first : List Line) (turns : List Turned) (last : List Line)
    → AnsweredTurns house opening by first turns last → last ≡ first ++ lines_since turns

-- the lines of the caller since then are those of its turns, in order, and nothing else
abbrev pub OwnLinesAlone : Type 0
OwnLinesAlone = (house : House) (opening : List Entry) (by : ℕ) (first : List Line) (turns : List Turned) (last : List Line)
    → AnsweredTurns house opening by first turns last → lines_by by (lines_since turns) ≡ own_lines turns

-- each verdict was taken over the first entries of what it had seen last, which are no fewer than it had seen first; its entry is the
-- next one there; and places never fall
abbrev pub PlacesStand : Type 0
PlacesStand = (house : House) (opening : List Entry) (by : ℕ) (first : List Line) (turns : List Turned) (last : List Line)
    → AnsweredTurns house opening by first turns last
    → AreTaken house (entries_of opening last) (length (entries_of opening first)) (answers_in house turns)

-- a mark says that too many turns failed
abbrev pub IsWorn : Mark → Type 0
IsWorn Worn = Unit {0}
IsWorn other = ⊥

-- where a mark says so, so many faults are told
abbrev pub WornStands : Type 0
WornStands = (house : House) (opening : List Entry) (by : ℕ) (first : List Line) (turns : List Turned) (last : List Line)
    → AnsweredTurns house opening by first turns last
    → AllByRecursion (λ (mark : Mark). IsWorn mark → MAX_FAULTS ≤ faults_of last) (marks (answers_in house turns))

-- the lines of each turn have one number, below that of each line of the caller's later turns
abbrev pub AreApart : ℕ → List Turned → Type 0
AreApart by [] = Unit {0}
AreApart by (t ∷ more) =
    ((turn : ℕ) × AreOf by turn t.added)
    × AllByRecursion (λ (line : Line). AllByRecursion (λ (later : Line). turn_of line < turn_of later) (own_lines more)) t.added
    × AreApart by more

-- so it is of what a caller was answered
abbrev pub TurnsApart : Type 0
TurnsApart = (house : House) (opening : List Entry) (by : ℕ) (first : List Line) (turns : List Turned) (last : List Line)
    → AnsweredTurns house opening by first turns last → AreApart by turns
