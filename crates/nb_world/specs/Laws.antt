-- What holds of every list of events.
use Rattle.std.specs.Prelude.{◌≡◌, ◌≢◌, ◌↔◌, ◌⊎◌, ℕ, ◌+◌, ◌≤◌, Bool, false, List, [], ◌∷◌, ◌++◌, length, take, None, Some, IsSome, if◌then◌else◌}
use Rattle.std.specs.List.{slice_get, AllByRecursion}
use Rattle.nb_units.specs.declared.ids.PartyId.{PartyId}
use Rattle.nb_entry.specs.declared.entry.Entry.{Entry}
use Rattle.nb_book.specs.Legal.{LegalAfter, Legal}
use Rattle.nb_turns.specs.Turns.{Request}
use Rattle.nb_world.specs.declared.call.Call.{Call}
use Rattle.nb_world.specs.declared.call.CallPhase.TheVariants.{InTurn, Answered, Gone}
use Rattle.nb_world.specs.declared.event.Event.{Event}
use Rattle.nb_world.specs.declared.event.Event.TheVariants as on
use Rattle.nb_world.specs.declared.packet.Maker.{Maker}
use Rattle.nb_world.specs.declared.packet.Maker.TheVariants as by
use Rattle.nb_world.specs.declared.packet.Packet.{Packet}
use Rattle.nb_msgs.specs.declared.node.To.{To}
use Rattle.nb_msgs.specs.declared.node.To.TheVariants as to
use Rattle.nb_world.specs.declared.turning.Acknowledged.{Acknowledged}
use Rattle.nb_world.specs.declared.turning.Origin.{Origin}
use Rattle.nb_world.specs.declared.turning.Stage.TheVariants as stage
use Rattle.nb_world.specs.declared.turning.Turning.{Turning}
use Rattle.nb_world.specs.declared.turning.Verdict.{Verdict}
use Rattle.nb_world.specs.World.{Stays, Rules, World, request_of, commits}
use Rattle.nb_world.specs.Steps.{step, next, run}
use Rattle.nb_world.specs.Fits.{IsConsumer, IsMerchant, Fits}

-- ---- which events fit

-- an event leads to a world exactly where it fits
abbrev pub FitsExactlyWhere : Type 0 → Type 0 → Type 0
FitsExactlyWhere C M = (p : Rules C M) (w : World C M) (e : Event) → IsSome (step p w e) ↔ Fits p w e

-- an event that does not fit changes nothing
abbrev pub UnfitChangesNothing : Type 0 → Type 0 → Type 0
UnfitChangesNothing C M = (p : Rules C M) (w : World C M) (e : Event) → (Fits p w e → ⊥) → next p w e ≡ w

-- ---- what stands in a world

-- a call by this number, of this packet, at this moment
pub record Asks {C M : Type 0} (w : World C M) (c : ℕ) (packet : Packet) (moment : ℕ) : Type 0 where
  pub call : Call
  pub is : slice_get w.calls c ≡ Some call
  pub of : slice_get w.packets call.packet ≡ Some packet
  pub at : call.moment ≡ moment

-- a call is of a packet for the house
pub record CallsHouse {C M : Type 0} (w : World C M) (call : Call) : Type 0 where
  pub packet : Packet
  pub of : slice_get w.packets call.packet ≡ Some packet
  pub for_house : packet.to ≡ to.Server

-- the entry at a place is what the verdict over those before it records, for the call that it came by
pub record CameBy {C M : Type 0} (verdict : List Entry → Request → Verdict) (w : World C M) (origin : Origin) : Type 0 where
  pub packet : Packet
  pub moment : ℕ
  pub entry : Entry
  pub asks : Asks w origin.call packet moment
  pub stands : slice_get w.durable origin.place ≡ Some entry
  pub ruled : (verdict (take origin.place w.durable) (request_of packet moment)).entry ≡ Some entry

-- an acknowledged entry stands at its place among the durable ones
abbrev pub StandsDurable : {C M : Type 0} → World C M → Acknowledged → Type 0
StandsDurable w a = slice_get w.durable a.place ≡ Some a.entry

-- whoever made the packet of a call is who its reply is for: a node
abbrev pub IsAsker : Maker → To → Type 0
IsAsker (by.Consumer id) (to.Consumer who) = who ≡ id
IsAsker (by.Merchant id) (to.Merchant who) = who ≡ id
IsAsker other who = ⊥

-- a packet that the house made in answer to a call is the reply of the verdict over the first so many of the durable entries, for the
-- node that asked. What that verdict records is the next of them
pub record IsReply {C M : Type 0} (verdict : List Entry → Request → Verdict) (w : World C M) (made : Packet) (c at : ℕ) : Type 0 where
  pub packet : Packet
  pub moment : ℕ
  pub asks : Asks w c packet moment
  pub within : at ≤ length w.durable
  pub kind : made.kind ≡ (verdict (take at w.durable) (request_of packet moment)).kind
  pub body : made.body ≡ (verdict (take at w.durable) (request_of packet moment)).body
  pub recorded : (entry : Entry) → (verdict (take at w.durable) (request_of packet moment)).entry ≡ Some entry → slice_get w.durable at ≡ Some entry
  pub for_asker : IsAsker packet.maker made.to

-- a packet is so, where the house made it
abbrev pub RepliesSo : {C M : Type 0} → (List Entry → Request → Verdict) → World C M → Packet → Maker → Type 0
RepliesSo verdict w made (by.Server c at) = IsReply verdict w made c at
RepliesSo verdict w made other = Unit {0}

-- the durable entries are Legal, and are those that the house works on; each call is of a packet for the house; each entry is what
-- the verdict over those before it records for the call that it came by; each acknowledged entry stands at its place; each packet
-- of the house is the reply of the verdict over the first durable entries, as many as its place says
pub record IsLawfulWorld {C M : Type 0} (verdict : List Entry → Request → Verdict) (w : World C M) : Type 0 where
  pub legal : Legal w.durable
  pub same : w.server ≡ w.durable
  pub called : AllByRecursion (CallsHouse w) w.calls
  pub came : AllByRecursion (CameBy verdict w) w.origins
  pub stands : AllByRecursion (StandsDurable w) w.acknowledged
  pub replies : AllByRecursion (λ (made : Packet). RepliesSo verdict w made made.maker) w.packets

-- ---- every list of events

-- what the verdict over Legal entries records may come next
abbrev pub RecordsLegal : (List Entry → Request → Verdict) → Type 0
RecordsLegal verdict = (entries : List Entry) (request : Request) (entry : Entry) → Legal entries → (verdict entries request).entry ≡ Some entry → LegalAfter entries entry

-- a world before the first event: Legal entries, and no packet, call or turn
pub record IsSetUp {C M : Type 0} (w : World C M) : Type 0 where
  pub legal : Legal w.durable
  pub same : w.server ≡ w.durable
  pub no_packets : w.packets ≡ []
  pub no_calls : w.calls ≡ []
  pub no_turn : w.turn ≡ None
  pub no_origins : w.origins ≡ []
  pub none_acknowledged : w.acknowledged ≡ []

-- a world that events lead to from a set-up is lawful
abbrev pub WorldLaw : Type 0 → Type 0 → Type 0
WorldLaw C M = (p : Rules C M) (w : World C M) → RecordsLegal p.verdict → IsSetUp w → (es : List Event) → IsLawfulWorld p.verdict (run p w es)

-- a list begins with another
abbrev pub Begins : {A : Type 0} → List A → List A → Type 0
Begins {A} whole front = (more : List A) × (whole ≡ front ++ more)

-- nothing is lost from a world to a later one: its durable entries, packets, origins and acknowledged entries are the first of the
-- later ones, and its calls are there, with their packets and moments
pub record GrowsInto {C M : Type 0} (w later : World C M) : Type 0 where
  pub durable : Begins later.durable w.durable
  pub packets : Begins later.packets w.packets
  pub origins : Begins later.origins w.origins
  pub acknowledged : Begins later.acknowledged w.acknowledged
  pub calls : (c : ℕ) (packet : Packet) (moment : ℕ) → Asks w c packet moment → Asks later c packet moment

-- every world grows into each later one
abbrev pub OnlyGrows : Type 0 → Type 0 → Type 0
OnlyGrows C M = (p : Rules C M) (w : World C M) (es : List Event) → GrowsInto w (run p w es)

-- behind a list of events and more of them stands what stands behind the more of them from there
abbrev pub RunThen : Type 0 → Type 0 → Type 0
RunThen C M = (p : Rules C M) (w : World C M) (es more : List Event) → run p w (es ++ more) ≡ run p (run p w es) more

-- the entries behind those of a first world have each a call that they came by, in their order
pub record HasOrigins {C M : Type 0} (first w : World C M) : Type 0 where
  pub as_many : length w.durable ≡ length first.durable + length w.origins
  pub in_order : (k : ℕ) (origin : Origin) → slice_get w.origins k ≡ Some origin → origin.place ≡ length first.durable + k

-- law: so it is along every run
abbrev pub EntriesHaveOrigins : Type 0 → Type 0 → Type 0
EntriesHaveOrigins C M = (p : Rules C M) (w : World C M) → w.origins ≡ [] → (es : List Event) → HasOrigins w (run p w es)

-- ---- the turn

-- a call has the phase of the turn exactly where the turn is its
abbrev pub OneHasTurn : {C M : Type 0} → World C M → Type 0
OneHasTurn w = (c : ℕ) (call : Call) → slice_get w.calls c ≡ Some call → (call.phase ≡ InTurn) ↔ ((t : Turning) × (w.turn ≡ Some t) × (t.call ≡ c))

-- so it is in each world of a run from one without turn and call, so that at most one call has the turn
abbrev pub TurnIsOfOneCall : Type 0 → Type 0 → Type 0
TurnIsOfOneCall C M = (p : Rules C M) (w : World C M) → w.turn ≡ None → w.calls ≡ [] → (es : List Event) → OneHasTurn (run p w es)

-- a turn is of a call that has its phase, and its verdict is that on what the call asks over the first entries, as many as its place says. Before
-- it is opened these are all entries, and behind that its own is the next; and one that is written has an entry
pub record IsTurnOf {C M : Type 0} (verdict : List Entry → Request → Verdict) (w : World C M) (t : Turning) : Type 0 where
  pub call : Call
  pub packet : Packet
  pub stands : slice_get w.calls t.call ≡ Some call
  pub in_turn : call.phase ≡ InTurn
  pub of : slice_get w.packets call.packet ≡ Some packet
  pub within : t.at ≤ length w.durable
  pub decided : t.verdict ≡ verdict (take t.at w.durable) (request_of packet call.moment)
  pub written : t.stage ≡ stage.Written → IsSome t.verdict.entry
  pub unopened : t.stage ≢ stage.Opened → t.at ≡ length w.durable
  pub opened : t.stage ≡ stage.Opened → (entry : Entry) × (t.verdict.entry ≡ Some entry) × (slice_get w.durable t.at ≡ Some entry)

-- so is the turn of each world of a run from a set-up, where it has one
abbrev pub TurnIsOfItsCall : Type 0 → Type 0 → Type 0
TurnIsOfItsCall C M = (p : Rules C M) (w : World C M) → RecordsLegal p.verdict → IsSetUp w → (es : List Event) (t : Turning)
    → (run p w es).turn ≡ Some t → IsTurnOf p.verdict (run p w es) t

-- from a world without packets and without a turn, whose house works on the durable entries, a reply to a call that was delivered behind some events says a
-- place at which none of the entries durable by then stands: it was read over all of them
abbrev pub RepliesReadAll : Type 0 → Type 0 → Type 0
RepliesReadAll C M = (p : Rules C M) (w : World C M) → w.server ≡ w.durable → w.packets ≡ [] → w.turn ≡ None → (before more : List Event) (k c at : ℕ) (made : Packet)
    → slice_get (run p w (before ++ more)).packets k ≡ Some made → made.maker ≡ by.Server c at
    → length (run p w before).calls ≤ c → length (run p w before).durable ≤ at

-- ---- nodes

-- a packet for a node whose body is not spelled as those of its kind are changes nothing
abbrev pub UnreadChangesNothing : Type 0 → Type 0 → Type 0
UnreadChangesNothing C M = (p : Rules C M) (w : World C M) (k : ℕ) (packet : Packet) → slice_get w.packets k ≡ Some packet → packet.to ≢ to.Server
    → p.is_body packet.kind packet.body ≡ false → next p w (on.Deliver k) ≡ w

-- a packet that a node ignores changes nothing, and neither does one that heard nothing for long and ignores it
abbrev pub IgnoredChangesNothing : Type 0 → Type 0 → Type 0
IgnoredChangesNothing C M = (p : Rules C M) (w : World C M) (id : PartyId)
    → ((k : ℕ) (packet : Packet) (c : C) → slice_get w.packets k ≡ Some packet → IsConsumer p w id c → packet.to ≡ to.Consumer id
    → p.consumer_hears c packet.kind packet.body ≡ Stays → next p w (on.Deliver k) ≡ w)
    × ((k : ℕ) (packet : Packet) (m : M) → slice_get w.packets k ≡ Some packet → IsMerchant p w id m → packet.to ≡ to.Merchant id
    → p.merchant_hears m packet.kind packet.body w.moment ≡ Stays → next p w (on.Deliver k) ≡ w)
    × ((c : C) (tid : ℕ) → IsConsumer p w id c → p.consumer_waited c tid ≡ Stays → next p w (on.QuietConsumer id tid) ≡ w)
    × ((m : M) (buyer : PartyId) (tid : ℕ) → IsMerchant p w id m → p.merchant_waited m buyer tid ≡ Stays → next p w (on.QuietMerchant id buyer tid) ≡ w)

-- ---- a stop

-- a call is over: it was answered, or it is gone
abbrev pub IsFinished : Call → Type 0
IsFinished call = (call.phase ≡ Answered) ⊎ (call.phase ≡ Gone)

-- what is behind a stop: nodes, packets and the clock as before; the commit list, or the durable entries alone; a house without a turn that
-- works on these; no call that is neither answered nor gone
pub record IsStopped {C M : Type 0} (w : World C M) (keep : Bool) (behind : World C M) : Type 0 where
  pub consumers : behind.consumers ≡ w.consumers
  pub merchants : behind.merchants ≡ w.merchants
  pub packets : behind.packets ≡ w.packets
  pub moment : behind.moment ≡ w.moment
  pub durable : behind.durable ≡ (if keep then commits w else w.durable)
  pub server : behind.server ≡ behind.durable
  pub free : behind.turn ≡ None
  pub over : AllByRecursion IsFinished behind.calls
  pub answered : (c : ℕ) (call : Call) → slice_get w.calls c ≡ Some call → call.phase ≡ Answered → slice_get behind.calls c ≡ Some call
  pub unanswered : (c : ℕ) (call gone : Call) → slice_get w.calls c ≡ Some call → slice_get behind.calls c ≡ Some gone → call.phase ≢ Answered → gone.phase ≡ Gone

-- law: what is behind a stop is so
abbrev pub StopLeaves : Type 0 → Type 0 → Type 0
StopLeaves C M = (p : Rules C M) (w : World C M) (keep : Bool) → IsStopped w keep (next p w (on.Stop keep))

-- what a stop leaves is a prefix of the commit list
abbrev pub StopKeepsPrefix : Type 0 → Type 0 → Type 0
StopKeepsPrefix C M = (p : Rules C M) (w : World C M) (keep : Bool) → Begins (commits w) (next p w (on.Stop keep)).durable

-- no event but an opening and a stop adds an entry
abbrev pub IsQuiet : Event → Type 0
IsQuiet (on.Open c) = ⊥
IsQuiet (on.Stop keep) = ⊥
IsQuiet other = Unit {0}

-- law: an event that is neither an opening nor a stop changes no durable entry
abbrev pub OthersAddNothing : Type 0 → Type 0 → Type 0
OthersAddNothing C M = (p : Rules C M) (w : World C M) (e : Event) → IsQuiet e → (next p w e).durable ≡ w.durable

-- ---- an answer

-- an answer acknowledges the entry of the turn, if there is one, at the place of its verdict, and nothing else
abbrev pub AnswerAcknowledges : Type 0 → Type 0 → Type 0
AnswerAcknowledges C M = (p : Rules C M) (w : World C M) (c : ℕ) (fits : Fits p w (on.Answer c))
    → ((entry : Entry) → fits.0.turn.verdict.entry ≡ Some entry → (next p w (on.Answer c)).acknowledged ≡ w.acknowledged ++ record { entry = entry; place = fits.0.turn.at } ∷ [])
    × (fits.0.turn.verdict.entry ≡ None → (next p w (on.Answer c)).acknowledged ≡ w.acknowledged)

-- one packet more: the reply of the turn, made by the house in answer to this call, for whoever made its packet
pub record HandsOut {C M : Type 0} (w : World C M) (turn : Turning) (c : ℕ) (asker : Maker) (behind : World C M) : Type 0 where
  pub made : Packet
  pub packets : behind.packets ≡ w.packets ++ made ∷ []
  pub kind : made.kind ≡ turn.verdict.kind
  pub body : made.body ≡ turn.verdict.body
  pub maker : made.maker ≡ by.Server c turn.at
  pub for_asker : IsAsker asker made.to

-- a node that asked is handed out its reply; where the house or the network made what asked, there is no packet more
abbrev pub RepliesTo : {C M : Type 0} → World C M → Turning → ℕ → Maker → World C M → Type 0
RepliesTo w turn c (by.Consumer id) behind = HandsOut w turn c (by.Consumer id) behind
RepliesTo w turn c (by.Merchant id) behind = HandsOut w turn c (by.Merchant id) behind
RepliesTo w turn c other behind = behind.packets ≡ w.packets

-- an answer does so
abbrev pub AnswerReplies : Type 0 → Type 0 → Type 0
AnswerReplies C M = (p : Rules C M) (w : World C M) (c : ℕ) (fits : Fits p w (on.Answer c)) (packet : Packet) (moment : ℕ)
    → Asks w c packet moment → RepliesTo w fits.0.turn c packet.maker (next p w (on.Answer c))

-- an event hands out a reply
abbrev pub IsAnswer : Event → Type 0
IsAnswer (on.Answer c) = Unit {0}
IsAnswer other = ⊥

-- no other event acknowledges anything
abbrev pub OthersAcknowledgeNothing : Type 0 → Type 0 → Type 0
OthersAcknowledgeNothing C M = (p : Rules C M) (w : World C M) (e : Event) → (IsAnswer e → ⊥) → (next p w e).acknowledged ≡ w.acknowledged
