-- The turns of a house on a disk are events of a world: which ones, request by request.
use Rattle.std.specs.Prelude.{◌≡◌, ◌≢◌, ◌⊎◌, ℕ, ◌+◌, Bool, true, false, List, [], ◌∷◌, ◌++◌, length, map, take, Option, None, Some, if◌then◌else◌}
use Rattle.std.specs.Option.{is_some, option_map}
use Rattle.std.specs.List.{slice_get, filter_map, AllByRecursion}
use Rattle.nb_units.specs.Frames.{frame}
use Rattle.nb_entry.specs.declared.entry.Entry.{Entry}
use Rattle.nb_turns.specs.Turns.{Request, Ruling, House, State, Outcome, Decides, Fails, Refuses, Answered as Reply, Round, Run, answered_in, last_state, place_of, recorded, with_entry}
use Rattle.nb_world.specs.declared.event.Event.{Event}
use Rattle.nb_world.specs.declared.event.Event.TheVariants as on
use Rattle.nb_world.specs.declared.packet.Packet.{Packet}
use Rattle.nb_msgs.specs.declared.node.To.TheVariants as to
use Rattle.nb_world.specs.declared.turning.Turning.{Turning}
use Rattle.nb_world.specs.declared.turning.Verdict.{Verdict}
use Rattle.nb_world.specs.World.{Rules, World}
use Rattle.nb_world.specs.Steps.{answer_of, next, run}

-- ---- a house and a world

-- the house that goes by the verdicts of a world: its replies are their frames
abbrev pub ruling_of : Verdict → Ruling
ruling_of verdict = record { reply = frame (record { kind = verdict.kind; body = verdict.body }); entry = verdict.entry }

-- the house of nb_turns that goes by the verdicts of a world
abbrev pub house_of : {C M : Type 0} → Rules C M → (ℕ → ℕ → List ℕ) → List ℕ → House
house_of p fault worn = record { rules = λ (entries : List Entry) (request : Request). ruling_of (p.verdict entries request); fault = fault; worn = worn }

-- both lists of the world are these entries, and no call has the turn
pub record IsAt {C M : Type 0} (w : World C M) (entries : List Entry) : Type 0 where
  pub durable : w.durable ≡ entries
  pub server : w.server ≡ entries
  pub free : w.turn ≡ None

-- the packet of this number is for the house, and asks what the request does
pub record IsPacketOf {C M : Type 0} (w : World C M) (k : ℕ) (request : Request) : Type 0 where
  pub packet : Packet
  pub stands : slice_get w.packets k ≡ Some packet
  pub for_house : packet.to ≡ to.Server
  pub kind : packet.kind ≡ request.kind
  pub body : packet.body ≡ request.body

-- ---- what a request plays

-- it is answered; or its entry is written, and a stop leaves it or not
pub data Play : Type 0 where
  Answers : Play
  Stops : Bool → Play

-- a request and what it plays: when, of which kind, with which body
pub record Played : Type 0 where
  pub request : Request
  pub play : Play

-- the clock is set to its moment, its packet is delivered, and its call, which has this number, takes the turn
abbrev pub asks : (Request → ℕ) → ℕ → Request → List Event
asks number n request = on.Clock request.moment ∷ on.Deliver (number request) ∷ on.Turn n ∷ []

-- what is recorded is written and opened
abbrev pub records : ℕ → Option Entry → List Event
records n None = []
records n (Some entry) = on.Write n ∷ on.Open n ∷ []

-- the events behind the turn of a request
abbrev pub ends : ℕ → Play → Option Entry → List Event
ends n Answers entry = records n entry ++ on.Answer n ∷ []
ends n (Stops keep) entry = on.Write n ∷ on.Stop keep ∷ []

-- the entries behind it
abbrev pub behind : House → List Entry → Request → Play → List Entry
behind house over request Answers = with_entry house over request
behind house over request (Stops true) = with_entry house over request
behind house over request (Stops false) = over

-- the events of what is played one after another over these entries, where the first call has this number
abbrev pub events_of : House → (Request → ℕ) → ℕ → List Entry → List Played → List Event
events_of house number n over [] = []
events_of house number n over (x ∷ played) =
    (asks number n x.request ++ ends n x.play (house.rules over x.request).entry) ++ events_of house number (n + 1) (behind house over x.request x.play) played

-- ---- what a run plays

-- these requests, each played so
abbrev pub all_play : Play → List Request → List Played
all_play play requests = map (λ (request : Request). record { request = request; play = play }) requests

-- those of the requests of a turn that record an entry
abbrev pub givers : House → List Entry → List Request → List Request
givers house over [] = []
givers house over (request ∷ requests) =
    if is_some (house.rules over request).entry
    then request ∷ givers house (with_entry house over request) requests
    else givers house (with_entry house over request) requests

-- what settling plays: nothing, where nothing is in doubt; where it is kept, each of the requests that gave its entries is written, and a stop
-- leaves it; where it is dropped, the first of them is written, and a stop does not leave it
abbrev pub Settling : State → List Request → List Entry → List Played → Type 0
Settling old gave over played =
    ((old.doubt ≡ []) × (over ≡ old.entries) × (played ≡ []))
    ⊎ ((old.doubt ≢ []) × (over ≡ old.entries ++ old.doubt) × (played ≡ all_play (Stops true) gave))
    ⊎ ((old.doubt ≢ []) × (over ≡ old.entries) × (played ≡ all_play (Stops false) (take 1 gave)))

-- what a turn plays that goes so, where these requests gave what was in doubt before it; and those that gave what is in doubt behind it. One that
-- decides plays what settling does and answers each request; one that fails plays nothing where settling a doubt failed and that stays, or else what
-- settling does, and what its requests record is in doubt; one that is refused plays nothing
abbrev pub PlaysTurn : House → State → List Request → List Request → Outcome → State → List Played → List Request → Type 0
PlaysTurn house old gave requests (Decides over) new played gives =
    (settling : List Played) × Settling old gave over settling × (played ≡ settling ++ all_play Answers requests) × (gives ≡ [])
PlaysTurn house old gave requests (Fails before after) new played gives =
    ((old.doubt ≢ []) × (new.entries ≡ old.entries) × (new.doubt ≡ old.doubt) × (played ≡ []) × (gives ≡ gave))
    ⊎ (Settling old gave new.entries played × (new.doubt ≢ []) × (new.doubt ≡ recorded house new.entries requests) × (gives ≡ givers house new.entries requests))
PlaysTurn house old gave requests Refuses new played gives = (played ≡ []) × (gives ≡ gave)

-- what a run plays, turn by turn
abbrev pub PlaysRun : House → State → List Request → List Round → List State → List Played → Type 0
PlaysRun house first gave [] [] played = played ≡ []
PlaysRun house first gave (round ∷ more) (next_one ∷ states) played =
    (here : List Played) × (rest : List Played) × (gives : List Request)
    × (played ≡ here ++ rest) × PlaysTurn house first gave round.requests round.outcome next_one here gives × PlaysRun house next_one gives more states rest
PlaysRun house first gave [] (next_one ∷ states) played = ⊥
PlaysRun house first gave (round ∷ more) [] played = ⊥

-- ---- what is told

-- the frame of the reply that an answer of this world hands out
abbrev pub reply_of_turn : Option Turning → List (List ℕ)
reply_of_turn None = []
reply_of_turn (Some t) = frame (record { kind = t.verdict.kind; body = t.verdict.body }) ∷ []

-- the frame that an event hands out in this world, if it does
abbrev pub told_at : {C M : Type 0} → World C M → Event → List (List ℕ)
told_at w (on.Answer c) = if is_some (answer_of w c) then reply_of_turn w.turn else []
told_at w other = []

-- the replies of the answers along a list of events
abbrev pub told_along : {C M : Type 0} → Rules C M → World C M → List Event → List (List ℕ)
told_along p w [] = []
told_along p w (e ∷ es) = told_at w e ++ told_along p (next p w e) es

-- the replies of those requests that have a place, in order
abbrev pub reply_with_place : Reply → Option (List ℕ)
reply_with_place answer = option_map (λ (place : ℕ). answer.reply) (place_of answer.mark)

-- the frames of these replies, in order
abbrev pub told_by : List Reply → List (List ℕ)
told_by answers = filter_map reply_with_place answers

-- ---- the tie

-- what a run plays as events of a world: both lists are then the entries of its last state, and the answers hand out the replies of its requests
-- that have a place, in order
pub record Ties {C M : Type 0} (p : Rules C M) (house : House) (w : World C M) (number : Request → ℕ) (first : State) (rounds : List Round) (states : List State) : Type 0 where
  pub played : List Played
  pub plays : PlaysRun house first [] rounds states played
  pub ends_at : IsAt (run p w (events_of house number (length w.calls) first.entries played)) (last_state first states).entries
  pub told : told_along p w (events_of house number (length w.calls) first.entries played) ≡ told_by (answered_in house rounds)

-- the packets of these numbers are for the house, and ask what the requests of a run do
abbrev pub HasPackets : {C M : Type 0} → World C M → (Request → ℕ) → List Round → Type 0
HasPackets w number rounds = AllByRecursion (λ (round : Round). AllByRecursion (λ (request : Request). IsPacketOf w (number request) request) round.requests) rounds

-- each run of turns from entries with nothing in doubt is events of each world that is at these entries and has packets of its requests
abbrev pub RunIsEvents : Type 0 → Type 0 → Type 0
RunIsEvents C M = (p : Rules C M) (fault : ℕ → ℕ → List ℕ) (worn : List ℕ) (w : World C M) (first : State) (number : Request → ℕ) (rounds : List Round) (states : List State)
    → IsAt w first.entries → first.doubt ≡ [] → HasPackets w number rounds → Run (house_of p fault worn) first rounds states
    → Ties p (house_of p fault worn) w number first rounds states
