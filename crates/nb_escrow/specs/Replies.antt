-- What holds of every reply: the keys that it is given under, and what it tells of the entries and of the request. No test of the
-- verdict is cited here. Where a law names no Legal list it holds over any list of entries.
use Rattle.std.specs.Prelude.{◌≡◌, ◌≢◌, ◌↔◌, ◌⊎◌, ℕ, ◌∷◌, ◌++◌, List, length, codes, Option, Some, None, Ok, IsSome}
use Rattle.std.specs.Option.{option_to_list}
use Rattle.nb_units.specs.declared.frames.TheConstants.{ORDER_REQUEST, STATUS_REQUEST, TICKET_REQUEST, ENROL_REQUEST, FUND_REQUEST}
use Rattle.nb_units.specs.Frames.{AreBytes}
use Rattle.nb_units.specs.declared.ids.AcctId.{AcctId}
use Rattle.nb_units.specs.declared.ids.PartyId.{PartyId}
use Rattle.nb_seal.specs.Hmac.{hmac_of}
use Rattle.nb_entry.specs.declared.entry.Entry.{Entry}
use Rattle.nb_entry.specs.declared.entry.Entry.TheVariants as entries
use Rattle.nb_book.specs.declared.kept.Kept.{Kept}
use Rattle.nb_book.specs.declared.party.Party.{Party}
use Rattle.nb_book.specs.Money.{balance}
use Rattle.nb_book.specs.Searches.{party_in, order_in}
use Rattle.nb_epo.specs.declared.order.Order.{Order}
use Rattle.nb_endorse.specs.declared.receipt.Receipt.{Receipt}
use Rattle.nb_endorse.specs.declared.receipt.TheConstants.{PAID_CODE, NO_KEY}
use Rattle.nb_endorse.specs.declared.refusal.TheConstants.{NOT_SERVED}
use Rattle.nb_endorse.specs.declared.reply.Reply.{Reply}
use Rattle.nb_endorse.specs.declared.reply.Reply.TheVariants.{Result as Receipts, Grant, Done, Status, Refused as Told}
use Rattle.nb_endorse.specs.declared.reply.ReplyKeys.{ReplyKeys}
use Rattle.nb_endorse.specs.Keys.{no_keys}
use Rattle.nb_endorse.specs.Refusals.{refusal}
use Rattle.nb_ticket.specs.declared.ask.TicketAsk.{TicketAsk}
use Rattle.nb_ticket.specs.Laws.{Carries}
use Rattle.nb_ticket.specs.Sealed.{sealed_grant, grant_with_ticket}
use Rattle.nb_body.specs.declared.enrolment.Enrolment.{Enrolment}
use Rattle.nb_body.specs.declared.funding.Funding.{Funding}
use Rattle.nb_escrow.specs.declared.head.Head.{Head}
use Rattle.nb_escrow.specs.declared.order.Presented.{Presented}
use Rattle.nb_escrow.specs.declared.settlement.RefusalReason.{RefusalReason}
use Rattle.nb_body.specs.declared.query.StatusQuery.{StatusQuery}
use Rattle.nb_body.specs.Reading.{enrolment_of, funding_of}
use Rattle.nb_escrow.specs.Checks.{signed_part}
use Rattle.nb_escrow.specs.Enrolments.{enrol_entry}
use Rattle.nb_escrow.specs.Fundings.{fund_entry}
use Rattle.nb_escrow.specs.Payable.{IsAuthenticOrder, digest_held, shown_to_consumer, shown_to_merchant}
use Rattle.nb_escrow.specs.Grants.{MayGrant, grant_of}
use Rattle.nb_escrow.specs.Laws.{IsAuthentic, IsGrant}
use Rattle.nb_escrow.specs.Verdict.{verdict}

-- ---- keys

-- the keys are the house's own, and then the merchant's and the consumer's of the order that the body is, or who asks's of the query that
-- it is, or the consumer's and the merchant's of the request for a ticket; any other reply has none
abbrev pub HasKeysOfParties : List Entry → Head → List ℕ → Reply → ReplyKeys → Type 0
HasKeysOfParties H head body (Receipts merchant consumer) keys =
    (p : Presented) × IsAuthenticOrder H body p × (keys ≡ record { house = head.house; first = p.merchant.key; second = p.consumer.key })
HasKeysOfParties H head body (Status place epoid receipt) keys =
    (asked : StatusQuery) × (is : IsAuthentic H body asked) × (keys ≡ record { house = head.house; first = is.asker.key; second = NO_KEY })
HasKeysOfParties H head body (Grant consumer merchant nonce until session) keys =
    (asked : TicketAsk) × (buyer : Party) × (seller : Party) × MayGrant H body asked buyer seller × (keys ≡ record { house = head.house; first = buyer.key; second = seller.key })
HasKeysOfParties H head body (Done acct at amount) keys = keys ≡ no_keys
HasKeysOfParties H head body (Told why) keys = keys ≡ no_keys

-- The keys of every verdict's reply are so.
abbrev pub KeysAreTheParties : Type 0
KeysAreTheParties = (H : List Entry) (head : Head) (cap kind : ℕ) (body : List ℕ) (moment : ℕ)
    → HasKeysOfParties H head body (verdict H head cap kind body moment).reply (verdict H head cap kind body moment).keys

-- ---- the receipts of an order

-- the receipt that a payment or a refusal at this place is told by, where its reason shows this
abbrev pub receipt_at : (RefusalReason → Option (ℕ × ℕ)) → ℕ → Entry → Option Receipt
receipt_at shown at (entries.Paid digest epoid consumer merchant product price cacct macct moment key) = Some (record {
  code = PAID_CODE;
  consumer = consumer;
  merchant = merchant;
  product = product;
  price = price;
  epoid = epoid;
  at = at;
  moment = moment;
  key = Some key;
  shown = None;
})
receipt_at shown at (entries.Charged digest epoid consumer merchant product price fee cacct macct moment key) = Some (record {
  code = PAID_CODE;
  consumer = consumer;
  merchant = merchant;
  product = product;
  price = price;
  epoid = epoid;
  at = at;
  moment = moment;
  key = Some key;
  shown = None;
})
receipt_at shown at (entries.Refused digest epoid consumer merchant product price code a b moment) = Some (record {
  code = code;
  consumer = consumer;
  merchant = merchant;
  product = product;
  price = price;
  epoid = epoid;
  at = at;
  moment = moment;
  key = None;
  shown = shown (record { code = code; a = a; b = b });
})
receipt_at shown at other = None

-- the merchant's receipt of an entry that was found
abbrev pub merchant_receipt : Kept → Option Receipt
merchant_receipt kept = receipt_at shown_to_merchant kept.at kept.entry

-- the consumer's receipt of an entry that was found
abbrev pub consumer_receipt : Kept → Option Receipt
consumer_receipt kept = receipt_at shown_to_consumer kept.at kept.entry

-- a receipt names the order, and that it was settled at this place and moment
abbrev pub NamesOrder : Order → ℕ → ℕ → Receipt → Type 0
NamesOrder order at moment r =
    (r.consumer ≡ order.consumer) × (r.merchant ≡ order.merchant) × (r.product ≡ order.product) × (r.price ≡ order.price) × (r.epoid ≡ order.epoid)
    × (r.at ≡ at) × (r.moment ≡ moment)

-- the receipts of an order are those of the entry that settles its identifier and has its digest, among the entries held and the one
-- recorded now. Where one is recorded now they name the order, the place behind the entries held, and the moment
abbrev pub TellsOrder : List Entry → List ℕ → ℕ → Option Entry → Reply → Type 0
TellsOrder H body moment recorded (Receipts merchant consumer) =
    (p : Presented) × (kept : Kept) × IsAuthenticOrder H body p
    × (order_in (H ++ option_to_list recorded) p.order.epoid ≡ Some kept) × (digest_held kept.entry ≡ Some p.digest)
    × (merchant_receipt kept ≡ Some merchant) × (consumer_receipt kept ≡ Some consumer)
    × (IsSome recorded → NamesOrder p.order (length H) moment merchant × NamesOrder p.order (length H) moment consumer)
TellsOrder H body moment recorded other = Unit {0}

-- The receipts of every verdict are so.
abbrev pub ReceiptsNameTheOrder : Type 0
ReceiptsNameTheOrder = (H : List Entry) (head : Head) (cap kind : ℕ) (body : List ℕ) (moment : ℕ)
    → TellsOrder H body moment (verdict H head cap kind body moment).entry (verdict H head cap kind body moment).reply

-- ---- an entry of the operator's

-- the entry stands in the list, and so many before it
abbrev pub StandsAt : List Entry → ℕ → Entry → Type 0
StandsAt all at e = (before : List Entry) × (after : List Entry) × (all ≡ before ++ e ∷ after) × (length before ≡ at)

-- the body asks for this entry, which is of this account, and has the operator's tag
abbrev pub OperatorAsks : Head → ℕ → List ℕ → AcctId → Entry → Type 0
OperatorAsks head kind body acct e =
    ((kind ≡ ENROL_REQUEST) × ((asked : Enrolment) × (enrolment_of body ≡ Ok asked) × (asked.tag ≡ hmac_of head.operator (codes "enro" ++ signed_part body))
    × (acct ≡ asked.acct) × (e ≡ enrol_entry asked)))
    ⊎ ((kind ≡ FUND_REQUEST) × ((asked : Funding) × (funding_of body ≡ Ok asked) × (asked.tag ≡ hmac_of head.operator (codes "fund" ++ signed_part body))
    × (acct ≡ asked.acct) × (e ≡ fund_entry asked)))

-- an entry that is told as done is asked for by the operator, and stands at the place told among the entries held and the one recorded
-- now, which is then the last; the balance is that of its account over these
abbrev pub TellsEntry : List Entry → Head → ℕ → List ℕ → Option Entry → Reply → Type 0
TellsEntry H head kind body recorded (Done acct at amount) =
    (e : Entry) × OperatorAsks head kind body acct e
    × StandsAt (H ++ option_to_list recorded) at e × (amount ≡ balance (H ++ option_to_list recorded) acct)
    × (IsSome recorded → (recorded ≡ Some e) × (at ≡ length H))
TellsEntry H head kind body recorded other = Unit {0}

-- What every verdict tells as done is so.
abbrev pub DoneTellsTheEntry : Type 0
DoneTellsTheEntry = (H : List Entry) (head : Head) (cap kind : ℕ) (body : List ℕ) (moment : ℕ)
    → TellsEntry H head kind body (verdict H head cap kind body moment).entry (verdict H head cap kind body moment).reply

-- ---- a status

-- the receipt of a party of an entry that was found: the consumer's, where it names the party so, or else the merchant's
abbrev pub IsReceiptFor : PartyId → Kept → Receipt → Type 0
IsReceiptFor id kept r =
    ((consumer_receipt kept ≡ Some r) × (r.consumer ≡ id))
    ⊎ ((merchant_receipt kept ≡ Some r) × (r.consumer ≢ id) × (r.merchant ≡ id))

-- a status tells the number of entries and the identifier asked for, and has a receipt exactly where an entry settles that and names
-- who asks, whose receipt it is
abbrev pub TellsStatus : List Entry → List ℕ → Reply → Type 0
TellsStatus H body (Status place epoid receipt) =
    (asked : StatusQuery) × IsAuthentic H body asked × (place ≡ length H) × (epoid ≡ asked.epoid)
    × ((r : Receipt) → (receipt ≡ Some r) ↔ ((kept : Kept) × (order_in H asked.epoid ≡ Some kept) × IsReceiptFor asked.asker kept r))
TellsStatus H body other = Unit {0}

-- The status that any verdict tells is so.
abbrev pub StatusTellsTheOrder : Type 0
StatusTellsTheOrder = (H : List Entry) (head : Head) (cap kind : ℕ) (body : List ℕ) (moment : ℕ)
    → TellsStatus H body (verdict H head cap kind body moment).reply

-- ---- a ticket

-- a grant is that of the request that the body is, at this moment, and nothing is recorded
abbrev pub TellsGrant : List Entry → Head → List ℕ → ℕ → Option Entry → Reply → Type 0
TellsGrant H head body moment recorded reply = IsGrant reply
    → (asked : TicketAsk) × (consumer : Party) × (merchant : Party) × MayGrant H body asked consumer merchant × (reply ≡ grant_of head.house asked moment) × (recorded ≡ None)

-- The grant that any verdict tells is so.
abbrev pub GrantTellsTheRequest : Type 0
GrantTellsTheRequest = (H : List Entry) (head : Head) (cap kind : ℕ) (body : List ℕ) (moment : ℕ)
    → TellsGrant H head body moment (verdict H head cap kind body moment).entry (verdict H head cap kind body moment).reply

-- the parties that a grant names are enrolled; and what it is sealed as is opened under the consumer's key, and the ticket in it under the
-- merchant's, to this nonce, last second and session key: for the merchant, up to the last second, and for nobody else and no later
abbrev pub OpensForBoth : List Entry → ReplyKeys → Reply → Type 0
OpensForBoth H keys (Grant consumer merchant nonce until session) =
    (buyer : Party) × (seller : Party) × (party_in H consumer ≡ Some buyer) × (party_in H merchant ≡ Some seller)
    × Carries buyer.key seller.key consumer merchant nonce until session
    (sealed_grant keys.first (grant_with_ticket keys.second (record { consumer = consumer; merchant = merchant; until = until; session = session }) nonce))
OpensForBoth H keys other = Unit {0}

-- The grant of every verdict is so.
abbrev pub GrantOpensForBoth : Type 0
GrantOpensForBoth = (H : List Entry) (head : Head) (cap kind : ℕ) (body : List ℕ) (moment : ℕ) → AreBytes body
    → OpensForBoth H (verdict H head cap kind body moment).keys (verdict H head cap kind body moment).reply

-- ---- a kind that is not served

-- A kind that is none of the five is refused, shown, and records nothing.
abbrev pub OtherKindsAreRefused : Type 0
OtherKindsAreRefused = (H : List Entry) (head : Head) (cap kind : ℕ) (body : List ℕ) (moment : ℕ)
    → kind ≢ ORDER_REQUEST → kind ≢ STATUS_REQUEST → kind ≢ TICKET_REQUEST → kind ≢ ENROL_REQUEST → kind ≢ FUND_REQUEST
    → verdict H head cap kind body moment ≡ record { reply = Told (refusal NOT_SERVED kind 0); keys = no_keys; entry = None }
