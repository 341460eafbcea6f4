-- What holds of every verdict. Where a law names no Legal list it holds over any list of entries.
use Rattle.std.specs.Prelude.{◌≡◌, ◌↔◌, ◌⊎◌, ℕ, ◌<◌, ◌≤◌, ◌∷◌, ◌++◌, List, length, codes, Option, Some, None, Ok}
use Rattle.std.specs.List.{Any}
use Rattle.std.specs.Option.{option_to_list}
use Rattle.nb_units.specs.declared.epoid.Epoid.{Epoid}
use Rattle.nb_units.specs.declared.frames.TheConstants.{ORDER_REQUEST, STATUS_REQUEST, TICKET_REQUEST, ENROL_REQUEST, FUND_REQUEST}
use Rattle.nb_units.specs.declared.ids.PartyId.{PartyId}
use Rattle.nb_seal.specs.Hmac.{hmac_of}
use Rattle.nb_body.specs.declared.limits.TheConstants as request
use Rattle.nb_entry.specs.declared.entry.TheConstants.{CONSUMER, MERCHANT}
use Rattle.nb_book.specs.declared.limits.TheConstants.{MAX_TOTAL}
use Rattle.nb_endorse.specs.declared.endorsement.TheConstants.{MAX_SEALED}
use Rattle.nb_entry.specs.declared.entry.Entry.{Entry}
use Rattle.nb_entry.specs.declared.entry.Entry.TheVariants.{Enrol, Fund, Paid, Charged, Refused}
use Rattle.nb_book.specs.declared.kept.Kept.{Kept}
use Rattle.nb_book.specs.declared.party.Party.{Party}
use Rattle.nb_book.specs.Legal.{LegalAfter, Legal, NextUnder}
use Rattle.nb_book.specs.Money.{balance}
use Rattle.nb_book.specs.Searches.{party_in, order_in}
use Rattle.nb_endorse.specs.declared.receipt.Receipt.{Receipt}
use Rattle.nb_endorse.specs.declared.reply.Reply.{Reply}
use Rattle.nb_endorse.specs.declared.refusal.Refusal.{Refusal}
use Rattle.nb_endorse.specs.declared.reply.Reply.TheVariants.{Result as Receipts, Grant, Done, Status, Refused as Told}
use Rattle.nb_endorse.specs.declared.reply.ReplyKeys.{ReplyKeys}
use Rattle.nb_ticket.specs.declared.ask.TicketAsk.{TicketAsk}
use Rattle.nb_body.specs.declared.enrolment.Enrolment.{Enrolment}
use Rattle.nb_body.specs.declared.funding.Funding.{Funding}
use Rattle.nb_escrow.specs.declared.head.Head.{Head}
use Rattle.nb_escrow.specs.declared.order.Presented.{Presented}
use Rattle.nb_escrow.specs.declared.settlement.RefusalReason.{RefusalReason}
use Rattle.nb_body.specs.declared.query.StatusQuery.{StatusQuery}
use Rattle.nb_body.specs.Reading.{query_of, enrolment_of, funding_of}
use Rattle.nb_escrow.specs.Checks.{signed_part}
use Rattle.nb_escrow.specs.Enrolments.{enrol_entry}
use Rattle.nb_escrow.specs.Head.{IsRuling}
use Rattle.nb_escrow.specs.Fundings.{fund_entry}
use Rattle.nb_escrow.specs.Payable.{IsAuthenticOrder, MaySettle, IsPayable, payment_of, TellsPayment, IsTrueReason, refusal_of, TellsReason, digest_held}
use Rattle.nb_escrow.specs.Grants.{MayGrant}
use Rattle.nb_escrow.specs.Claims.{IsTrueRefusal}
use Rattle.nb_escrow.specs.Verdict.{verdict}

-- What a verdict records may come after the entries that it was taken over in a journal of the head's version and rate, and there is room for
-- it, where a house may decide under the head: version 1 or 2, a rate of at most 1,000. The entries may be any list
abbrev pub RecordsLegal : Type 0
RecordsLegal = (H : List Entry) (head : Head) (cap kind : ℕ) (body : List ℕ) (moment : ℕ) (entry : Entry) → IsRuling head
    → (verdict H head cap kind body moment).entry ≡ Some entry → NextUnder head.version head.rate H entry × (length H < cap)

-- a reply that is given again over these entries: the same, with what is in the account by then
abbrev pub given_again : List Entry → Reply → Reply
given_again L (Done acct at amount) = Done acct at (balance L acct)
given_again L other = other

-- A request whose entry was recorded may come again, at any moment and after any further entries: it is given the same reply
-- under the same keys, with a balance by then where it is told one, and records nothing.
abbrev pub ToldAgain : Type 0
ToldAgain = (H more : List Entry) (head : Head) (cap kind : ℕ) (body : List ℕ) (moment later : ℕ) (entry : Entry) (reply : Reply) (keys : ReplyKeys)
    → verdict H head cap kind body moment ≡ record { reply = reply; keys = keys; entry = Some entry }
    → verdict (H ++ entry ∷ more) head cap kind body later ≡ record { reply = given_again (H ++ entry ∷ more) reply; keys = keys; entry = None }

-- The result of an order stays: its request may come again at any moment, and after whatever was recorded behind these entries
-- and its own. The reply is the same, under the same keys, and nothing is recorded.
abbrev pub ResultStays : Type 0
ResultStays = (H more : List Entry) (head : Head) (cap : ℕ) (body : List ℕ) (moment later : ℕ) (merchant consumer : Receipt) (keys : ReplyKeys) (entry : Option Entry)
    → verdict H head cap ORDER_REQUEST body moment ≡ record { reply = Receipts merchant consumer; keys = keys; entry = entry }
    → verdict (H ++ option_to_list entry ++ more) head cap ORDER_REQUEST body later ≡ record { reply = Receipts merchant consumer; keys = keys; entry = None }

-- And it is the same under another head of the same house, whatever the versions and the rates: the result of an order that was settled
-- before.
abbrev pub RepeatIsSame : Type 0
RepeatIsSame = (H : List Entry) (head other : Head) (cap : ℕ) (body : List ℕ) (moment later : ℕ) (merchant consumer : Receipt) (keys : ReplyKeys) → head.house ≡ other.house
    → verdict H head cap ORDER_REQUEST body moment ≡ record { reply = Receipts merchant consumer; keys = keys; entry = None }
    → verdict H other cap ORDER_REQUEST body later ≡ record { reply = Receipts merchant consumer; keys = keys; entry = None }

-- the entry pays the order of this identifier, names this party as its consumer or as its merchant, and has this key
abbrev pub PaysWith : Epoid → PartyId → List ℕ → Entry → Type 0
PaysWith p id key (Paid digest epoid consumer merchant product price cacct macct moment k) = (epoid ≡ p) × (k ≡ key) × ((consumer ≡ id) ⊎ (merchant ≡ id))
PaysWith p id key (Charged digest epoid consumer merchant product price fee cacct macct moment k) = (epoid ≡ p) × (k ≡ key) × ((consumer ≡ id) ⊎ (merchant ≡ id))
PaysWith p id key other = ⊥

-- the reply gives who asks a receipt with this key
abbrev pub GivesKey : Reply → List ℕ → Type 0
GivesKey (Status place epoid (Some receipt)) key = receipt.key ≡ Some key
GivesKey other key = ⊥

-- a status query is authentic over these entries: its body is spelled as it should be, who asks is enrolled, and the tag is
-- the one that the body has under the key of who asks
pub record IsAuthentic (H : List Entry) (body : List ℕ) (asked : StatusQuery) : Type 0 where
  pub asker : Party
  pub read : query_of body ≡ Ok asked
  pub enrolled : party_in H asked.asker ≡ Some asker
  pub signed : asked.tag ≡ hmac_of asker.key (codes "stat" ++ signed_part body)

-- to an authentic status query over at least as many entries as it asks for, the reply gives a key exactly where an entry pays the order
-- with that key and names who asks
abbrev pub KeyWherePaid : List Entry → List ℕ → Reply → Type 0
KeyWherePaid H body reply = (asked : StatusQuery) (key : List ℕ) → IsAuthentic H body asked → asked.least ≤ length H
    → GivesKey reply key ↔ Any (PaysWith asked.epoid asked.asker key) H

-- Over every Legal list the verdict on a status query is so.
abbrev pub StatusTellsKey : Type 0
StatusTellsKey = (H : List Entry) → Legal H → (head : Head) (cap : ℕ) (body : List ℕ) (moment : ℕ)
    → KeyWherePaid H body (verdict H head cap STATUS_REQUEST body moment).reply

-- ---- exactly where

-- an entry is an enrolment
abbrev pub IsEnrolment : Entry → Type 0
IsEnrolment (Enrol id role acct nonce key) = Unit {0}
IsEnrolment other = ⊥

-- an entry is a fund
abbrev pub IsFund : Entry → Type 0
IsFund (Fund acct amount reference) = Unit {0}
IsFund other = ⊥

-- an entry is a payment, with a fee or without
abbrev pub IsPayment : Entry → Type 0
IsPayment (Paid digest epoid consumer merchant product price cacct macct moment key) = Unit {0}
IsPayment (Charged digest epoid consumer merchant product price fee cacct macct moment key) = Unit {0}
IsPayment other = ⊥

-- an entry refuses an order
abbrev pub IsRefusedOrder : Entry → Type 0
IsRefusedOrder (Refused digest epoid consumer merchant product price code a b moment) = Unit {0}
IsRefusedOrder other = ⊥

-- the reply is the receipts of an order
abbrev pub AreReceipts : Reply → Type 0
AreReceipts (Receipts merchant consumer) = Unit {0}
AreReceipts other = ⊥

-- a reply is a status
abbrev pub IsStatusReply : Reply → Type 0
IsStatusReply (Status place epoid receipt) = Unit {0}
IsStatusReply other = ⊥

-- a reply is a grant
abbrev pub IsGrant : Reply → Type 0
IsGrant (Grant consumer merchant nonce until session) = Unit {0}
IsGrant other = ⊥

-- an entry that is recorded for a request, if any, is a payment exactly where the request is an endorsed order that is payable, and it is
-- the payment of that order under the head
abbrev pub PaidWherePayable : List Entry → Head → ℕ → ℕ → List ℕ → ℕ → Option Entry → Type 0
PaidWherePayable H head cap kind body moment recorded = (entry : Entry)
    → ((recorded ≡ Some entry) × IsPayment entry)
    ↔ ((kind ≡ ORDER_REQUEST) × ((p : Presented) × IsPayable H cap body moment p × (entry ≡ payment_of head p moment)))

-- What a verdict records is so.
abbrev pub PaidExactlyWhere : Type 0
PaidExactlyWhere = (H : List Entry) (head : Head) (cap kind : ℕ) (body : List ℕ) (moment : ℕ)
    → PaidWherePayable H head cap kind body moment (verdict H head cap kind body moment).entry

-- A payable order is told that it is paid.
abbrev pub PayableIsTold : Type 0
PayableIsTold = (H : List Entry) (head : Head) (cap : ℕ) (body : List ℕ) (moment : ℕ) (p : Presented) → IsPayable H cap body moment p
    → TellsPayment p (verdict H head cap ORDER_REQUEST body moment).reply

-- An order is recorded, as paid or as refused, exactly where it may be settled.
abbrev pub SettledExactlyWhere : Type 0
SettledExactlyWhere = (H : List Entry) (head : Head) (cap kind : ℕ) (body : List ℕ) (moment : ℕ)
    → ((entry : Entry) × ((verdict H head cap kind body moment).entry ≡ Some entry) × (IsPayment entry ⊎ IsRefusedOrder entry))
    ↔ ((kind ≡ ORDER_REQUEST) × ((p : Presented) × MaySettle H cap body p))

-- The reason of an order that is recorded as refused is true of the entries and of the order, and is what its receipts tell.
abbrev pub RefusedForTrueReason : Type 0
RefusedForTrueReason = (H : List Entry) (head : Head) (cap kind : ℕ) (body : List ℕ) (moment : ℕ) (entry : Entry)
    → (verdict H head cap kind body moment).entry ≡ Some entry → IsRefusedOrder entry
    → (p : Presented) × (why : RefusalReason) × MaySettle H cap body p × IsTrueReason H p moment why × (entry ≡ refusal_of p moment why)
    × TellsReason why (verdict H head cap kind body moment).reply

-- An order is told its result and nothing is recorded exactly where it is authentic, and an entry that has its digest settles its identifier.
abbrev pub ToldExactlyWhere : Type 0
ToldExactlyWhere = (H : List Entry) (head : Head) (cap kind : ℕ) (body : List ℕ) (moment : ℕ)
    → (AreReceipts (verdict H head cap kind body moment).reply × ((verdict H head cap kind body moment).entry ≡ None))
    ↔ ((kind ≡ ORDER_REQUEST) × ((p : Presented) × (kept : Kept) × IsAuthenticOrder H body p × (order_in H p.order.epoid ≡ Some kept) × (digest_held kept.entry ≡ Some p.digest)))

-- Over a Legal list an enrolment is recorded exactly where it is asked for under the operator's tag, may come next, and there is room.
abbrev pub EnrolledExactlyWhere : Type 0
EnrolledExactlyWhere = (H : List Entry) → Legal H → (head : Head) (cap kind : ℕ) (body : List ℕ) (moment : ℕ) (entry : Entry)
    → (((verdict H head cap kind body moment).entry ≡ Some entry) × IsEnrolment entry)
    ↔ ((kind ≡ ENROL_REQUEST) × ((asked : Enrolment) × (enrolment_of body ≡ Ok asked) × (asked.tag ≡ hmac_of head.operator (codes "enro" ++ signed_part body))
    × (entry ≡ enrol_entry asked) × LegalAfter H entry × (length H < cap)))

-- The same of a fund.
abbrev pub FundedExactlyWhere : Type 0
FundedExactlyWhere = (H : List Entry) → Legal H → (head : Head) (cap kind : ℕ) (body : List ℕ) (moment : ℕ) (entry : Entry)
    → (((verdict H head cap kind body moment).entry ≡ Some entry) × IsFund entry)
    ↔ ((kind ≡ FUND_REQUEST) × ((asked : Funding) × (funding_of body ≡ Ok asked) × (asked.tag ≡ hmac_of head.operator (codes "fund" ++ signed_part body))
    × (entry ≡ fund_entry asked) × LegalAfter H entry × (length H < cap)))

-- A status is told exactly where the query is authentic and at least as many entries are held as it asks for.
abbrev pub AnsweredExactlyWhere : Type 0
AnsweredExactlyWhere = (H : List Entry) (head : Head) (cap kind : ℕ) (body : List ℕ) (moment : ℕ)
    → IsStatusReply (verdict H head cap kind body moment).reply
    ↔ ((kind ≡ STATUS_REQUEST) × ((asked : StatusQuery) × IsAuthentic H body asked × (asked.least ≤ length H)))

-- A ticket is granted exactly where the request for it is authentic, and the party that it is for is enrolled as a merchant.
abbrev pub GrantedExactlyWhere : Type 0
GrantedExactlyWhere = (H : List Entry) (head : Head) (cap kind : ℕ) (body : List ℕ) (moment : ℕ)
    → IsGrant (verdict H head cap kind body moment).reply
    ↔ ((kind ≡ TICKET_REQUEST) × ((asked : TicketAsk) × (consumer : Party) × (merchant : Party) × MayGrant H body asked consumer merchant))

-- Over a Legal list each refusal is true: what its code claims holds of the entries and of the request, and so do its numbers.
abbrev pub RefusalsAreTrue : Type 0
RefusalsAreTrue = (H : List Entry) → Legal H → (head : Head) (cap kind : ℕ) (body : List ℕ) (moment : ℕ) (why : Refusal)
    → (verdict H head cap kind body moment).reply ≡ Told why → IsTrueRefusal H head cap kind body why

-- What a request may say are the roles and the amounts that a book may record, and sealed endorsements as long as endorsements are.
abbrev pub RequestLimitsAre : Type 0
RequestLimitsAre = (request.CONSUMER_ROLE ≡ CONSUMER) × (request.MERCHANT_ROLE ≡ MERCHANT) × (request.MAX_AMOUNT ≡ MAX_TOTAL) × (request.MAX_ENDORSED ≡ MAX_SEALED)
