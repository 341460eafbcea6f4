-- The six sentences of a house and its parties: of a run of a real house, and of every list of events of a world that is tied to it.
use Rattle.std.specs.Prelude.{◌≡◌, ◌↔◌, ◌⊎◌, ℕ, ◌<◌, ◌≤◌, Bool, List, [], ◌∷◌, ◌++◌, length, take, None, Some}
use Rattle.std.specs.List.{count_by, slice_get, AllByRecursion}
use Rattle.nb_port.specs.Tells.{DiskTells}
use Rattle.nb_port.specs.Faults.{Rose}
use Rattle.nb_units.specs.declared.epoid.Epoid.{Epoid}
use Rattle.nb_units.specs.declared.frames.TheConstants.{ORDER_REQUEST, STATUS_REQUEST}
use Rattle.nb_entry.specs.declared.entry.Entry.{Entry}
use Rattle.nb_book.specs.declared.kept.Kept.{Kept}
use Rattle.nb_book.specs.Searches.{order_in, settles}
use Rattle.nb_journal.specs.Time.{LeavesOnly}
use Rattle.nb_turns.specs.declared.limits.TheConstants.{MAX_FAULTS}
use Rattle.nb_turns.specs.declared.mark.Mark.{Mark}
use Rattle.nb_turns.specs.declared.mark.Mark.TheVariants.{At}
use Rattle.nb_turns.specs.Turns.{Request, House, Round, SettlesInto, Answered, answered, answered_in}
use Rattle.nb_turns.specs.Lines.{faults_of}
use Rattle.nb_turns.specs.Callers.{AreTaken}
use Rattle.nb_turns.specs.Laws.{IsBalanced}
use Rattle.nb_body.specs.declared.query.StatusQuery.{StatusQuery}
use Rattle.nb_endorse.specs.declared.receipt.TheConstants.{NO_KEY}
use Rattle.nb_endorse.specs.declared.refusal.Refusal.{Refusal}
use Rattle.nb_endorse.specs.declared.reply.Reply.TheVariants as reply
use Rattle.nb_escrow.specs.declared.decision.Decision.{Decision}
use Rattle.nb_escrow.specs.declared.head.Head.{Head}
use Rattle.nb_escrow.specs.declared.order.Presented.{Presented}
use Rattle.nb_escrow.specs.declared.settlement.RefusalReason.{RefusalReason}
use Rattle.nb_escrow.specs.Claims.{IsTrueRefusal}
use Rattle.nb_escrow.specs.Laws.{PaidWherePayable, KeyWherePaid, IsAuthentic, IsRefusedOrder, AreReceipts, IsStatusReply}
use Rattle.nb_escrow.specs.Payable.{IsAuthenticOrder, MaySettle, IsPayable, TellsPayment, IsTrueReason, refusal_of, TellsReason, digest_held}
use Rattle.nb_escrow.specs.Replies.{HasKeysOfParties, TellsOrder}
use Rattle.nb_escrow.specs.Verdict.{verdict}
use Rattle.nb_vault.specs.Holdings.{StandsFor}
use Rattle.nb_vault.specs.Vaults.{Chronicled, entries_in, doubt_in, house_in, state_of}
use Rattle.nb_consumer.specs.State.{Buyer}
use Rattle.nb_merchant.specs.Shop.{Shop}
use Rattle.nb_world.specs.declared.event.Event.{Event}
use Rattle.nb_world.specs.declared.event.Event.TheVariants as on
use Rattle.nb_world.specs.declared.packet.Maker.TheVariants as by
use Rattle.nb_world.specs.declared.packet.Packet.{Packet}
use Rattle.nb_world.specs.declared.turning.Origin.{Origin as Cause}
use Rattle.nb_world.specs.World.{World, request_of, commits}
use Rattle.nb_world.specs.Steps.{next, run}
use Rattle.nb_world.specs.Laws.{Asks, Begins, CameBy, HasOrigins, RepliesSo, StandsDurable}
use Rattle.nb_world.specs.Headline.{TellsKey}
use Rattle.nb_world.specs.Ties.{Ties}
use Rattle.nb_parties.specs.Rules.{house_verdict, shown}
use Rattle.nb_headline.specs.Served.{IsTied, head_in, last_vault, rules_in, states_of}

-- ---- 1. what a stop leaves

-- what an image stands for: the entries of the state before a turn or behind it, each without those in doubt then or with them; and in them stands all
-- that was told by then, each reply over the first of them, as many as it tells, and the entry that it tells of next
pub record LeavesTold {D : Type 0} (house : House) (old new : Chronicled D) (least : ℕ) (told : List Answered) (image : List ℕ) : Type 0 where
  pub entries : List Entry
  pub stands : StandsFor old.origin.charter old.origin.cap entries image
  pub prefix : SettlesInto (state_of old) entries ⊎ SettlesInto (state_of new) entries
  pub acknowledged : AreTaken house entries least told

-- so does each image that the disk at rest allows, between two turns or behind the last one, when all these were told
abbrev pub RestLeaves : {D : Type 0} → DiskTells D → House → ℕ → List Answered → Chronicled D → Type 0
RestLeaves tells house least told v = (image : List ℕ) → tells.allowed v.disk image → LeavesTold house v v least told image

-- so it is before each turn, when these were told, and at any moment of it; and then of the turns behind it, when its own replies were told too; and behind the last
abbrev pub StopsLeave : {D : Type 0} → DiskTells D → House → ℕ → List Answered → Chronicled D → List Round → List (Chronicled D) → Type 0
StopsLeave tells house least told old [] [] = RestLeaves tells house least told old
StopsLeave tells house least told old (round ∷ more) (new ∷ vaults) =
    RestLeaves tells house least told old × LeavesOnly tells old.disk new.disk (LeavesTold house old new least told)
    × StopsLeave tells house least (told ++ answered house round.requests round.outcome) new more vaults
StopsLeave tells house least told old rounds vaults = ⊥

-- what a stop leaves in a world: a prefix of the commit list, in which each acknowledged entry stands at its place, and which begins with the set-up's entries
pub record WorldLeaves (set_up w : World Buyer Shop) (stopped : World Buyer Shop) : Type 0 where
  pub prefix : Begins (commits w) stopped.durable
  pub acknowledged : AllByRecursion (StandsDurable stopped) w.acknowledged
  pub grows : Begins stopped.durable set_up.durable

-- Sentence 1: a stop leaves a prefix of the commits, with all that was told. So it is of the house at any moment of its run, and of the world behind every list of events.
pub record StopLeavesPrefix {D : Type 0} (tells : DiskTells D) (first : Chronicled D) (rounds : List Round) (vaults : List (Chronicled D)) (set_up : World Buyer Shop) : Type 0 where
  pub house : StopsLeave tells (house_in first) (length (entries_in first)) [] first rounds vaults
  pub world : (es : List Event) (keep : Bool) → WorldLeaves set_up (run (rules_in first) set_up es) (next (rules_in first) (run (rules_in first) set_up es) (on.Stop keep))

-- ---- 2. orders

-- of vaults one behind the other, an entry that settles the order in one does so in each later one
abbrev pub OrderStays : {D : Type 0} → Epoid → List (Chronicled D) → Type 0
OrderStays order [] = Unit {0}
OrderStays {D} order (v ∷ later) =
    ((kept : Kept) → order_in (entries_in v) order ≡ Some kept → AllByRecursion (λ (w : Chronicled D). order_in (entries_in w) order ≡ Some kept) later) × OrderStays order later

-- Sentence 2: an order moves its price at most once. At most one entry settles it, in the first vault and in each behind it, also with those in doubt; and the one that
-- does stays in each later vault, and in the world behind all further events.
pub record OrderMovesOnce {D : Type 0} (first : Chronicled D) (vaults : List (Chronicled D)) (set_up : World Buyer Shop) : Type 0 where
  pub house : (order : Epoid) → AllByRecursion (λ (v : Chronicled D). count_by (settles order) (entries_in v ++ doubt_in v) ≤ 1) (first ∷ vaults)
  pub house_stays : (order : Epoid) → OrderStays order (first ∷ vaults)
  pub world : (order : Epoid) (es : List Event) → count_by (settles order) (run (rules_in first) set_up es).durable ≤ 1
  pub stays : (order : Epoid) (es more : List Event) (kept : Kept) → order_in (run (rules_in first) set_up es).durable order ≡ Some kept
      → order_in (run (rules_in first) set_up (es ++ more)).durable order ≡ Some kept

-- ---- 3. money

-- Sentence 3: balances and fees sum to what came in, and no account is overdrawn, in the first vault and in each behind it, without the entries in doubt and with them;
-- and in the world, without the entry that is written and not opened and with it.
pub record MoneyIsConserved {D : Type 0} (first : Chronicled D) (vaults : List (Chronicled D)) (set_up : World Buyer Shop) : Type 0 where
  pub house : AllByRecursion (λ (v : Chronicled D). IsBalanced (entries_in v) × IsBalanced (entries_in v ++ doubt_in v)) (first ∷ vaults)
  pub world : (es : List Event) → IsBalanced (run (rules_in first) set_up es).durable × IsBalanced (commits (run (rules_in first) set_up es))

-- ---- 4. payments and refusals

-- the decision on a request over entries
abbrev pub decision_on : Head → ℕ → List Entry → Request → Decision
decision_on head cap over request = verdict over head cap request.kind request.body request.moment

-- a payment is recorded exactly where the request is an order that is payable, which is told that it is paid, with its key; what a refusal claims is true; an order
-- that is recorded as refused is so for a reason that is true, which its receipts tell; and receipts are those of the entry that settles the order: of the one recorded
-- now, or, exactly where the order was settled before, of the one held, and then nothing is recorded. A reply is given under the keys of its parties alone
pub record PaysTruly (head : Head) (cap : ℕ) (over : List Entry) (request : Request) : Type 0 where
  pub paid : PaidWherePayable over head cap request.kind request.body request.moment (decision_on head cap over request).entry
  pub refusal : (why : Refusal) → (decision_on head cap over request).reply ≡ reply.Refused why → IsTrueRefusal over head cap request.kind request.body why
  pub refused : (entry : Entry) → (decision_on head cap over request).entry ≡ Some entry → IsRefusedOrder entry
      → (p : Presented) × (why : RefusalReason) × MaySettle over cap request.body p × IsTrueReason over p request.moment why × (entry ≡ refusal_of p request.moment why)
      × TellsReason why (decision_on head cap over request).reply
  pub told : request.kind ≡ ORDER_REQUEST → (p : Presented) → IsPayable over cap request.body request.moment p → TellsPayment p (decision_on head cap over request).reply
  pub receipts : TellsOrder over request.body request.moment (decision_on head cap over request).entry (decision_on head cap over request).reply
  pub again : (AreReceipts (decision_on head cap over request).reply × ((decision_on head cap over request).entry ≡ None))
      ↔ ((request.kind ≡ ORDER_REQUEST) × ((p : Presented) × (kept : Kept) × IsAuthenticOrder over request.body p
      × (order_in over p.order.epoid ≡ Some kept) × (digest_held kept.entry ≡ Some p.digest)))
  pub keys : HasKeysOfParties over head request.body (decision_on head cap over request).reply (decision_on head cap over request).keys

-- a reply that the house made in a world to this packet, delivered at this moment, shows the decision on it over the first entries, as many as the reply's place says;
-- and that decision is so
pub record RepliesTruly (head : Head) (cap : ℕ) (w : World Buyer Shop) (made packet : Packet) (at moment : ℕ) : Type 0 where
  pub within : at ≤ length w.durable
  pub kind : made.kind ≡ (shown (decision_on head cap (take at w.durable) (request_of packet moment))).kind
  pub body : made.body ≡ (shown (decision_on head cap (take at w.durable) (request_of packet moment))).body
  pub truly : PaysTruly head cap (take at w.durable) (request_of packet moment)

-- a request was decided, and not refused because the disk failed or the house is worn
abbrev pub IsDecided : Mark → Type 0
IsDecided (At place) = Unit {0}
IsDecided other = ⊥

-- of each turn: where the disk's count does not rise in it, and the house is not worn before it, each of its requests is decided
abbrev pub CalmDecides : {D : Type 0} → DiskTells D → House → Chronicled D → List Round → List (Chronicled D) → Type 0
CalmDecides tells house old [] [] = Unit {0}
CalmDecides tells house old (round ∷ more) (new ∷ vaults) =
    ((Rose (tells.faults old.disk) (tells.faults new.disk) → ⊥) → faults_of old.lines < MAX_FAULTS
    → AllByRecursion (λ (a : Answered). IsDecided a.mark) (answered house round.requests round.outcome))
    × CalmDecides tells house new more vaults
CalmDecides tells house old rounds vaults = ⊥

-- where a request was decided at a place, this holds of it over the first entries, as many as the place
abbrev pub WhereDecided : (List Entry → Request → Type 0) → List Entry → Request → Mark → Type 0
WhereDecided so entries request (At place) = so (take place entries) request
WhereDecided so entries request other = Unit {0}

-- so it is of each of these requests that was decided
abbrev pub AllDecidedSo : (List Entry → Request → Type 0) → List Entry → List Answered → Type 0
AllDecidedSo so entries answers = AllByRecursion (λ (a : Answered). WhereDecided so entries a.request a.mark) answers

-- Sentence 4: where the disk's count does not rise and the house is not worn, each request is decided, in each turn and in a whole run; and each request that was decided
-- is paid exactly where it is payable, and refused truly. In the world each entry behind the set-up's has a call that it came by, for which it was recorded so; and each
-- reply of the house, also one that refuses, shows a decision that is so.
pub record PaidWherePayableRefusedTruly {D : Type 0} (tells : DiskTells D) (first : Chronicled D) (rounds : List Round) (vaults : List (Chronicled D)) (set_up : World Buyer Shop) : Type 0 where
  pub decided_turns : CalmDecides tells (house_in first) first rounds vaults
  pub decided : (Rose (tells.faults first.disk) (tells.faults (last_vault first vaults).disk) → ⊥) → faults_of first.lines < MAX_FAULTS
      → AllByRecursion (λ (a : Answered). IsDecided a.mark) (answered_in (house_in first) rounds)
  pub house : AllDecidedSo (PaysTruly (head_in first) first.origin.cap) (entries_in (last_vault first vaults)) (answered_in (house_in first) rounds)
  pub causes : (es : List Event) → HasOrigins set_up (run (rules_in first) set_up es)
  pub came : (es : List Event) → AllByRecursion (CameBy (house_verdict (head_in first) first.origin.cap) (run (rules_in first) set_up es)) (run (rules_in first) set_up es).origins
  pub world : (es : List Event) (cause : Cause) (came : CameBy (house_verdict (head_in first) first.origin.cap) (run (rules_in first) set_up es) cause)
      → PaysTruly (head_in first) first.origin.cap (take cause.place (run (rules_in first) set_up es).durable) (request_of came.packet came.moment)
  pub replied : (es : List Event) (k c at : ℕ) (made packet : Packet) (moment : ℕ) → let w = run (rules_in first) set_up es in
      slice_get w.packets k ≡ Some made → made.maker ≡ by.Server c at → Asks w c packet moment → RepliesTruly (head_in first) first.origin.cap w made packet at moment

-- ---- 5. keys

-- an authentic status query that asks for no more entries than these is told a status, which is sealed under the key of who asks; and each status is one of an
-- authentic query, sealed so
pub record SealsForAsker (head : Head) (over : List Entry) (body : List ℕ) (decision : Decision) : Type 0 where
  pub told : (asked : StatusQuery) → IsAuthentic over body asked → asked.least ≤ length over → IsStatusReply decision.reply
  pub sealed : (asked : StatusQuery) (is : IsAuthentic over body asked) → IsStatusReply decision.reply → decision.keys ≡ record { house = head.house; first = is.asker.key; second = NO_KEY }
  pub asks : IsStatusReply decision.reply → (asked : StatusQuery) × IsAuthentic over body asked × (asked.least ≤ length over)

-- to an authentic status query that asks for no more entries than these, the key is given exactly where one of them pays the order and names who asks, and is sealed
-- for who asks
abbrev pub GivesKeyWherePaid : Head → ℕ → List Entry → Request → Type 0
GivesKeyWherePaid head cap over request =
    request.kind ≡ STATUS_REQUEST
    → KeyWherePaid over request.body (decision_on head cap over request).reply × SealsForAsker head over request.body (decision_on head cap over request)

-- Sentence 5: so it is of each status query that the house decided, and of each that it answered in the world; that it was then decided over at least the entries that
-- every stop left when it was delivered, sentence 6 says.
pub record KeyWherePaymentStands {D : Type 0} (first : Chronicled D) (rounds : List Round) (vaults : List (Chronicled D)) (set_up : World Buyer Shop) : Type 0 where
  pub house : AllDecidedSo (GivesKeyWherePaid (head_in first) first.origin.cap) (entries_in (last_vault first vaults)) (answered_in (house_in first) rounds)
  pub world : (es : List Event) (k c at : ℕ) (made packet : Packet) (moment : ℕ) → let w = run (rules_in first) set_up es in
      slice_get w.packets k ≡ Some made → made.maker ≡ by.Server c at → Asks w c packet moment → packet.kind ≡ STATUS_REQUEST
      → TellsKey (verdict (take at w.durable) (head_in first) first.origin.cap STATUS_REQUEST packet.body moment) shown w.durable packet.body at made
      × SealsForAsker (head_in first) (take at w.durable) packet.body (verdict (take at w.durable) (head_in first) first.origin.cap STATUS_REQUEST packet.body moment)

-- ---- 6. replies

-- Sentence 6: each reply is that of the verdict on its request over the first entries of one list, as many as its place says; the entry that it records is the next one
-- there; and places never fall. In the world a reply to a call that was delivered behind some events was decided over at least the entries that every stop leaves by then.
pub record RepliesOfOneList {D : Type 0} (first : Chronicled D) (rounds : List Round) (vaults : List (Chronicled D)) (set_up : World Buyer Shop) : Type 0 where
  pub house : AreTaken (house_in first) (entries_in (last_vault first vaults)) (length (entries_in first)) (answered_in (house_in first) rounds)
  pub world : (es : List Event) → let w = run (rules_in first) set_up es in AllByRecursion (λ (made : Packet). RepliesSo (house_verdict (head_in first) first.origin.cap) w made made.maker) w.packets
  pub read_all : (before more : List Event) (k c at : ℕ) (made : Packet) → slice_get (run (rules_in first) set_up (before ++ more)).packets k ≡ Some made → made.maker ≡ by.Server c at
      → length (run (rules_in first) set_up before).calls ≤ c → length (run (rules_in first) set_up before).durable ≤ at

-- ---- all of them

-- The six sentences; and that the run of the house is events of the world, which lead it to the entries of the last vault and hand out the run's replies.
pub record Headline {D : Type 0} (tells : DiskTells D) (first : Chronicled D) (rounds : List Round) (vaults : List (Chronicled D)) (set_up : World Buyer Shop) (es : List Event) (number : Request → ℕ) : Type 0 where
  pub tie : Ties (rules_in first) (house_in first) (run (rules_in first) set_up es) number (state_of first) rounds (states_of vaults)
  pub stop_leaves_prefix : StopLeavesPrefix tells first rounds vaults set_up
  pub order_moves_once : OrderMovesOnce first vaults set_up
  pub money_is_conserved : MoneyIsConserved first vaults set_up
  pub paid_where_payable : PaidWherePayableRefusedTruly tells first rounds vaults set_up
  pub key_where_payment_stands : KeyWherePaymentStands first rounds vaults set_up
  pub replies_of_one_list : RepliesOfOneList first rounds vaults set_up

-- So it is of every run of a real house and every world of real parties that are tied.
abbrev pub HeadlineLaw : {D : Type 0} → DiskTells D → Type 0
HeadlineLaw {D} tells = (first : Chronicled D) (rounds : List Round) (vaults : List (Chronicled D)) (set_up : World Buyer Shop) (es : List Event) (number : Request → ℕ)
    → IsTied tells first rounds vaults set_up es number → Headline tells first rounds vaults set_up es number
