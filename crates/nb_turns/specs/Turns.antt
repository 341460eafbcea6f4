-- The house as a machine: a turn takes some requests and a state, and gives an answer to each of them and a state.
use Rattle.std.specs.Prelude.{◌≡◌, ◌≢◌, ℕ, ◌+◌, ◌<◌, ◌≤◌, ◌⊎◌, List, [], ◌∷◌, ◌++◌, Option, None, Some, length, map, Contains}
use Rattle.std.specs.List.{flat_map, filter_map}
use Rattle.std.specs.Option.{option_to_list}
use Rattle.nb_port.specs.Faults.{Failure}
use Rattle.nb_entry.specs.declared.entry.Entry.{Entry}
use Rattle.nb_turns.specs.declared.limits.TheConstants.{MAX_FAULTS, MAX_REQUESTS}
use Rattle.nb_turns.specs.declared.mark.Mark.{Mark}
use Rattle.nb_turns.specs.declared.mark.Mark.TheVariants.{At, Fault, Worn}

-- what is asked, and when
pub record Request : Type 0 where
  pub kind : ℕ
  pub body : List ℕ
  pub moment : ℕ

-- what a verdict comes to: the bytes of its reply, and what it records
pub record Ruling : Type 0 where
  pub reply : List ℕ
  pub entry : Option Entry

-- what a house goes by: its verdict on a request over some entries, and the bytes of its two refusals: that the disk failed
-- between two counts of its faults, and that too many turns failed
pub record House : Type 0 where
  pub rules : List Entry → Request → Ruling
  pub fault : ℕ → ℕ → List ℕ
  pub worn : List ℕ

-- the house between two turns: its entries, those of the item in doubt (none where nothing is), and how many turns failed
pub record State : Type 0 where
  pub entries : List Entry
  pub doubt : List Entry
  pub faults : ℕ

-- how a turn went: its first verdict was over these entries; the disk failed between two counts of its faults; or nothing was
-- done, since too many turns failed before
pub data Outcome : Type 0 where
  Decides : List Entry → Outcome
  Fails : ℕ → ℕ → Outcome
  Refuses : Outcome

-- a request and what came of it
pub record Answered : Type 0 where
  pub request : Request
  pub mark : Mark
  pub reply : List ℕ

-- ---- verdicts one after another

-- the entries behind the verdict over these
abbrev pub with_entry : House → List Entry → Request → List Entry
with_entry house over request = over ++ option_to_list (house.rules over request).entry

-- what comes of a request whose verdict is over these entries
abbrev pub answer_over : House → List Entry → Request → Answered
answer_over house over request = record { request = request; mark = At (length over); reply = (house.rules over request).reply }

-- what comes of requests of which the first is decided over these entries, and each other over those behind the one before it
abbrev pub decided : House → List Entry → List Request → List Answered
decided house over [] = []
decided house over (request ∷ more) = answer_over house over request ∷ decided house (with_entry house over request) more

-- what they record
abbrev pub recorded : House → List Entry → List Request → List Entry
recorded house over [] = []
recorded house over (request ∷ more) = option_to_list (house.rules over request).entry ++ recorded house (with_entry house over request) more

-- ---- what is told

-- the same comes of each request
abbrev pub alike : Mark → List ℕ → List Request → List Answered
alike mark reply requests = map (λ (request : Request). record { request = request; mark = mark; reply = reply }) requests

-- what comes of the requests of a turn that went so
abbrev pub answered : House → List Request → Outcome → List Answered
answered house requests (Decides over) = decided house over requests
answered house requests (Fails before after) = alike (Fault before after) (house.fault before after) requests
answered house requests Refuses = alike Worn house.worn requests

-- how each of them was answered
abbrev pub marks : List Answered → List Mark
marks answers = map (λ (a : Answered). a.mark) answers

-- the place of a request that was decided
abbrev pub place_of : Mark → Option ℕ
place_of (At place) = Some place
place_of other = None

-- the places of those that were decided
abbrev pub places : List Answered → List ℕ
places answers = filter_map place_of (marks answers)

-- their replies, one after another
abbrev pub replies : List Answered → List ℕ
replies answers = flat_map (λ (a : Answered). a.reply) answers

-- ---- one turn

-- what the first verdict is taken over: the entries, with or without those that were in doubt
abbrev pub SettlesInto : State → List Entry → Type 0
SettlesInto old over = (over ≡ old.entries) ⊎ (over ≡ old.entries ++ old.doubt)

-- what was in doubt could not be settled, and stays so
abbrev pub Unsettled : State → State → Type 0
Unsettled old new = (old.doubt ≢ []) × (new ≡ record { entries = old.entries; doubt = old.doubt; faults = old.faults + 1 })

-- what the verdicts record could not be made durable, and is in doubt
pub record Doubts (house : House) (old : State) (requests : List Request) (new : State) : Type 0 where
  pub over : List Entry
  pub settled : SettlesInto old over
  pub some : recorded house over requests ≢ []
  pub left : new ≡ record { entries = over; doubt = recorded house over requests; faults = old.faults + 1 }

-- a turn may go so from old, and lead to new
abbrev pub Turn : House → State → List Request → Outcome → State → Type 0
Turn house old requests (Decides over) new =
    (old.faults < MAX_FAULTS) × SettlesInto old over
    × (new ≡ record { entries = over ++ recorded house over requests; doubt = []; faults = old.faults })
Turn house old requests (Fails before after) new = (old.faults < MAX_FAULTS) × (Unsettled old new ⊎ Doubts house old requests new)
Turn house old requests Refuses new = (old.faults ≡ MAX_FAULTS) × (new ≡ old)

-- a turn has at least one request, and at most as many as an item has entries
abbrev pub FitTurn : List Request → Type 0
FitTurn requests = (1 ≤ length requests) × (length requests ≤ MAX_REQUESTS)

-- ---- several turns

-- what a turn was asked, and how it went
pub record Round : Type 0 where
  pub requests : List Request
  pub outcome : Outcome

-- from a first state these turns were made one after another, and the house came to these states
abbrev pub Run : House → State → List Round → List State → Type 0
Run house first [] [] = Unit {0}
Run house first (round ∷ more) (next ∷ states) =
    FitTurn round.requests × Turn house first round.requests round.outcome next × Run house next more states
Run house first [] (next ∷ states) = ⊥
Run house first (round ∷ more) [] = ⊥

-- the last state of a run
abbrev pub last_state : State → List State → State
last_state first [] = first
last_state first (next ∷ states) = last_state next states

-- it is the first state of a run or one that the house came to
abbrev pub IsStateOf : State → List State → State → Type 0
IsStateOf first states state = Contains (first ∷ states) state

-- what came of all requests of a run
abbrev pub answered_in : House → List Round → List Answered
answered_in house rounds = flat_map (λ (round : Round). answered house round.requests round.outcome) rounds

-- the counts of the disk's faults between which a turn failed
abbrev pub failure_of : Outcome → Option Failure
failure_of (Fails before after) = Some (record { before = before; after = after })
failure_of other = None

-- the failures of a run, in their order
abbrev pub failures_of : List Round → List Failure
failures_of rounds = flat_map (λ (round : Round). option_to_list (failure_of round.outcome)) rounds
