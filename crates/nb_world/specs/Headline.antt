-- What follows along every list of events for orders, for money, and for a consumer who asks for a key.
use Rattle.std.specs.Prelude.{◌≡◌, ℕ, ◌≤◌, List, length, take, Option, Some}
use Rattle.std.specs.List.{count_by, slice_get, AllByRecursion}
use Rattle.nb_units.specs.declared.epoid.Epoid.{Epoid}
use Rattle.nb_units.specs.declared.frames.TheConstants.{STATUS_REQUEST}
use Rattle.nb_units.specs.Frames.{Frame}
use Rattle.nb_entry.specs.declared.entry.Entry.{Entry}
use Rattle.nb_entry.specs.declared.entry.TheConstants.{CONSUMER, MERCHANT}
use Rattle.nb_book.specs.declared.kept.Kept.{Kept}
use Rattle.nb_book.specs.Legal.{IsOfRate, LegalUnder}
use Rattle.nb_book.specs.Searches.{order_in, settles}
use Rattle.nb_turns.specs.Turns.{Request}
use Rattle.nb_turns.specs.Laws.{IsBalanced}
use Rattle.nb_endorse.specs.declared.receipt.Receipt.{Receipt}
use Rattle.nb_endorse.specs.declared.reply.Reply.TheVariants.{Status}
use Rattle.nb_escrow.specs.declared.decision.Decision.{Decision}
use Rattle.nb_escrow.specs.declared.head.Head.{Head}
use Rattle.nb_escrow.specs.declared.settlement.Settlement.{Settlement}
use Rattle.nb_escrow.specs.Head.{IsRuling}
use Rattle.nb_escrow.specs.Laws.{KeyWherePaid}
use Rattle.nb_escrow.specs.Replies.{merchant_receipt, consumer_receipt}
use Rattle.nb_escrow.specs.Settlements.{settlement_in, receipt_in_role}
use Rattle.nb_escrow.specs.Verdict.{verdict}
use Rattle.nb_world.specs.declared.event.Event.{Event}
use Rattle.nb_world.specs.declared.packet.Maker.TheVariants as by
use Rattle.nb_world.specs.declared.packet.Packet.{Packet}
use Rattle.nb_world.specs.declared.turning.Verdict.{Verdict}
use Rattle.nb_world.specs.World.{Rules, World, commits}
use Rattle.nb_world.specs.Steps.{run}
use Rattle.nb_world.specs.Laws.{RecordsLegal, IsSetUp, Asks}

-- an order moves its price at most once: at most one durable entry settles it, and the entry that settles it once does so in every
-- later world
abbrev pub OrderMovesOnce : Type 0 → Type 0 → Type 0
OrderMovesOnce C M = (p : Rules C M) (w : World C M) → RecordsLegal p.verdict → IsSetUp w → (order : Epoid) (es more : List Event)
    → (count_by (settles order) (run p w es).durable ≤ 1)
    × ((kept : Kept) → order_in (run p w es).durable order ≡ Some kept → order_in (run p (run p w es) more).durable order ≡ Some kept)

-- no money is made or lost: the balances of all accounts and the fees sum to the total of the funds, and no account is overdrawn; among the durable
-- entries, and with the one that is written and not opened
abbrev pub MoneyIsConserved : Type 0 → Type 0 → Type 0
MoneyIsConserved C M = (p : Rules C M) (w : World C M) → RecordsLegal p.verdict → IsSetUp w → (es : List Event)
    → IsBalanced (run p w es).durable × IsBalanced (commits (run p w es))

-- ---- the version and the rate

-- what the verdict records, a journal of this version and this rate may have
abbrev pub RecordsOfRate : (List Entry → Request → Verdict) → ℕ → ℕ → Type 0
RecordsOfRate verdict version rate = (entries : List Entry) (request : Request) (entry : Entry) → (verdict entries request).entry ≡ Some entry → IsOfRate version rate entry

-- where that is so, it records only what may come next, and a journal of this version and this rate may have each entry of the set-up, the durable
-- entries are Legal under them, and so is the commit list
abbrev pub RateIsKept : Type 0 → Type 0 → Type 0
RateIsKept C M = (p : Rules C M) (w : World C M) (version rate : ℕ) → RecordsLegal p.verdict → RecordsOfRate p.verdict version rate
    → IsSetUp w → AllByRecursion (IsOfRate version rate) w.durable → (es : List Event)
    → LegalUnder version rate (run p w es).durable × LegalUnder version rate (commits (run p w es))

-- ---- the key

-- what a decision comes to, where its reply is shown as a frame in this way
abbrev pub verdict_shown : (Decision → Frame) → Decision → Verdict
verdict_shown shown decision = record { kind = (shown decision).kind; body = (shown decision).body; entry = decision.entry }

-- the verdicts are those of the house with this head and cap, whose decisions are shown as frames in this way, whichever it is: what is said of
-- such a world speaks of the decision's reply, and of a frame only that it shows the decision so
abbrev pub GoesByHouse : {C M : Type 0} → Rules C M → (Decision → Frame) → Head → ℕ → Type 0
GoesByHouse p shown head cap = (entries : List Entry) (request : Request)
    → p.verdict entries request ≡ verdict_shown shown (verdict entries head cap request.kind request.body request.moment)

-- a packet shows the decision on a status query over the first so many entries: its number of entries is that, and, where as many are
-- asked for, it has a receipt with a key exactly where one of them pays the order with that key and names who asks
pub record TellsKey (decision : Decision) (shown : Decision → Frame) (entries : List Entry) (body : List ℕ) (at : ℕ) (made : Packet) : Type 0 where
  pub kind : made.kind ≡ (shown decision).kind
  pub body_shown : made.body ≡ (shown decision).body
  pub within : at ≤ length entries
  pub place : (place : ℕ) (order : Epoid) (receipt : Option Receipt) → decision.reply ≡ Status place order receipt → place ≡ at
  pub key : KeyWherePaid (take at entries) body decision.reply

-- the verdicts of such a world record only what may come next, where a house may decide under the head
abbrev pub HouseRecordsLegal : Type 0 → Type 0 → Type 0
HouseRecordsLegal C M = (p : Rules C M) (shown : Decision → Frame) (head : Head) (cap : ℕ) → GoesByHouse p shown head cap → IsRuling head → RecordsLegal p.verdict

-- and only entries that a journal of the head's version and rate may have
abbrev pub HouseRecordsOfRate : Type 0 → Type 0 → Type 0
HouseRecordsOfRate C M = (p : Rules C M) (shown : Decision → Frame) (head : Head) (cap : ℕ) → GoesByHouse p shown head cap → IsRuling head
    → RecordsOfRate p.verdict head.version head.rate

-- each packet that the house made of a status query tells how many entries it was read over; and where the query is authentic and asks for no more
-- than these, it gives the key exactly where one of them pays the order and names who asks: whenever the query was delivered, when it had its turn,
-- and whatever else happened
abbrev pub KeyWhereItStands : Type 0 → Type 0 → Type 0
KeyWhereItStands C M = (p : Rules C M) (shown : Decision → Frame) (head : Head) (cap : ℕ) → GoesByHouse p shown head cap → IsRuling head
    → (w : World C M) → IsSetUp w → (es : List Event) (k c at : ℕ) (made packet : Packet) (moment : ℕ)
    → slice_get (run p w es).packets k ≡ Some made → made.maker ≡ by.Server c at
    → Asks (run p w es) c packet moment → packet.kind ≡ STATUS_REQUEST
    → TellsKey (verdict (take at (run p w es).durable) head cap STATUS_REQUEST packet.body moment) shown (run p w es).durable packet.body at made

-- ---- receipts

-- where an order is found, the receipt that its entry tells the consumer, or the merchant, is that of the order's settlement for this role
abbrev pub ReceiptsOfSettlements : Type 0
ReceiptsOfSettlements = (entries : List Entry) (order : Epoid) (kept : Kept) (receipt : Receipt) → order_in entries order ≡ Some kept
    → (consumer_receipt kept ≡ Some receipt → (s : Settlement) × (settlement_in entries order ≡ Some s) × (receipt ≡ receipt_in_role CONSUMER s))
    × (merchant_receipt kept ≡ Some receipt → (s : Settlement) × (settlement_in entries order ≡ Some s) × (receipt ≡ receipt_in_role MERCHANT s))
