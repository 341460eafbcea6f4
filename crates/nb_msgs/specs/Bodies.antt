-- What a message is in bytes: its kind, and the one spelling of its body. Numbers are big-endian; a text has its length before it, in
-- four bytes.
use Rattle.std.specs.Prelude.{◌≡◌, ℕ, ◌<◌, ◌≤◌, ◌^◌, List, [], ◌∷◌, ◌++◌, length}
use Rattle.nb_units.specs.Fields.{be4, be8, sized}
use Rattle.nb_units.specs.Frames.{Frame, frame}
use Rattle.nb_units.specs.declared.frames.TheConstants.{PRICE_REQUEST, QUOTE_REPLY, GOODS_REQUEST, GOODS_REPLY, PAYMENT_REQUEST, ORDER_REQUEST, RESULT_REPLY, PAYMENT_REPLY, STATUS_REQUEST, STATUS_REPLY, TICKET_REQUEST, GRANT_REPLY, ENROL_REQUEST, FUND_REQUEST, DONE_REPLY, REFUSED_REPLY}
use Rattle.nb_body.specs.declared.limits.TheConstants.{MAX_AMOUNT, MAX_ENDORSED}
use Rattle.nb_body.specs.Spelling.{IsRole, IsEndorsedOrder, endorsed_bytes, IsQuery, query_bytes, IsEnrolment, enrolment_bytes, IsFunding, funding_bytes}
use Rattle.nb_endorse.specs.declared.receipt.TheConstants.{RECEIPT_BYTES}
use Rattle.nb_endorse.specs.declared.refusal.Refusal.{Refusal}
use Rattle.nb_ticket.specs.declared.ticket.TheConstants.{TICKET_BYTES}
use Rattle.nb_ticket.specs.declared.granted.TheConstants.{GRANT_BYTES}
use Rattle.nb_ticket.specs.Spelling.{IsAsk, ask_bytes}
use Rattle.nb_goods.specs.declared.limits.TheConstants.{PART_BYTES}
use Rattle.nb_msgs.specs.declared.lengths.TheConstants.{MAX_SEALED_PRICE_REQUEST, MAX_SEALED_QUOTE, MAX_SEALED_GOODS_REQUEST, MAX_SEALED_HEAD, MAX_SEALED_PAYMENT}
use Rattle.nb_msgs.specs.declared.status.TheConstants.{MOST_STATUS}
use Rattle.nb_msgs.specs.declared.message.Message.{Message}
use Rattle.nb_msgs.specs.declared.message.Message.TheVariants as message

-- the kind of its frame
abbrev pub kind_of : Message → ℕ
kind_of (message.PriceAsk ticket sealed) = PRICE_REQUEST
kind_of (message.Quote transaction sealed) = QUOTE_REPLY
kind_of (message.GoodsAsk ticket sealed) = GOODS_REQUEST
kind_of (message.Goods transaction head part) = GOODS_REPLY
kind_of (message.Order ticket sealed) = PAYMENT_REQUEST
kind_of (message.Endorsed merchant sealed) = ORDER_REQUEST
kind_of (message.Result merchant consumer) = RESULT_REPLY
kind_of (message.Passed transaction part) = PAYMENT_REPLY
kind_of (message.StatusAsk query) = STATUS_REQUEST
kind_of (message.Status sealed) = STATUS_REPLY
kind_of (message.TicketAsk ask) = TICKET_REQUEST
kind_of (message.Grant sealed) = GRANT_REPLY
kind_of (message.Enrol enrolment) = ENROL_REQUEST
kind_of (message.Fund funding) = FUND_REQUEST
kind_of (message.Done acct at balance) = DONE_REPLY
kind_of (message.Refusal refusal) = REFUSED_REPLY

-- the one spelling of its body
abbrev pub body_bytes : Message → List ℕ
body_bytes (message.PriceAsk ticket sealed) = sized ticket ++ sized sealed
body_bytes (message.Quote transaction sealed) = be8 transaction ++ sized sealed
body_bytes (message.GoodsAsk ticket sealed) = sized ticket ++ sized sealed
body_bytes (message.Goods transaction head part) = be8 transaction ++ sized head ++ sized part
body_bytes (message.Order ticket sealed) = sized ticket ++ sized sealed
body_bytes (message.Endorsed merchant sealed) = endorsed_bytes (record { merchant = merchant; sealed = sealed })
body_bytes (message.Result merchant consumer) = sized merchant ++ sized consumer
body_bytes (message.Passed transaction part) = be8 transaction ++ sized part
body_bytes (message.StatusAsk query) = query_bytes query
body_bytes (message.Status sealed) = sealed
body_bytes (message.TicketAsk ask) = ask_bytes ask
body_bytes (message.Grant sealed) = sealed
body_bytes (message.Enrol enrolment) = enrolment_bytes enrolment
body_bytes (message.Fund funding) = funding_bytes funding
body_bytes (message.Done acct at balance) = be4 acct.0 ++ be8 at ++ be8 balance
body_bytes (message.Refusal refusal) = (refusal.code ∷ []) ++ be8 refusal.a ++ be8 refusal.b ++ refusal.x

-- the part of goods at the end of its body, where it has one
abbrev pub part_in : Message → List ℕ
part_in (message.Goods transaction head part) = part
part_in other = []

-- its frame, and the bytes of that
abbrev pub message_frame : Message → Frame
message_frame m = record { kind = kind_of m; body = body_bytes m }

-- the bytes of a message's frame
abbrev pub message_bytes : Message → List ℕ
message_bytes m = frame (message_frame m)

-- what a program has to see to itself: that no text is longer than it may be, and that a role and an amount are allowed. Each number
-- that a program holds fits its width
abbrev pub MessageKeepsRules : Message → Type 0
MessageKeepsRules (message.PriceAsk ticket sealed) = (length ticket ≤ TICKET_BYTES) × (length sealed ≤ MAX_SEALED_PRICE_REQUEST)
MessageKeepsRules (message.Quote transaction sealed) = length sealed ≤ MAX_SEALED_QUOTE
MessageKeepsRules (message.GoodsAsk ticket sealed) = (length ticket ≤ TICKET_BYTES) × (length sealed ≤ MAX_SEALED_GOODS_REQUEST)
MessageKeepsRules (message.Goods transaction head part) = (length head ≤ MAX_SEALED_HEAD) × (length part ≤ PART_BYTES)
MessageKeepsRules (message.Order ticket sealed) = (length ticket ≤ TICKET_BYTES) × (length sealed ≤ MAX_SEALED_PAYMENT)
MessageKeepsRules (message.Endorsed merchant sealed) = length sealed ≤ MAX_ENDORSED
MessageKeepsRules (message.Result merchant consumer) = (length merchant ≤ RECEIPT_BYTES) × (length consumer ≤ RECEIPT_BYTES)
MessageKeepsRules (message.Passed transaction part) = length part ≤ RECEIPT_BYTES
MessageKeepsRules (message.Status sealed) = length sealed ≤ MOST_STATUS
MessageKeepsRules (message.Grant sealed) = length sealed ≤ GRANT_BYTES
MessageKeepsRules (message.Enrol enrolment) = IsRole enrolment.role
MessageKeepsRules (message.Fund funding) = (1 ≤ funding.amount) × (funding.amount ≤ MAX_AMOUNT)
MessageKeepsRules other = Unit {0}

-- a refusal's fields are within their limits
pub record IsRefusal (r : Refusal) : Type 0 where
  pub code : r.code < 2 ^ 8
  pub a : r.a < 2 ^ 64
  pub b : r.b < 2 ^ 64
  pub x : length r.x ≡ 32

-- each field of a message is within its limits
abbrev pub IsMessage : Message → Type 0
IsMessage (message.Quote transaction sealed) = (transaction < 2 ^ 64) × (length sealed ≤ MAX_SEALED_QUOTE)
IsMessage (message.Goods transaction head part) = (transaction < 2 ^ 64) × (length head ≤ MAX_SEALED_HEAD) × (length part ≤ PART_BYTES)
IsMessage (message.Endorsed merchant sealed) = IsEndorsedOrder (record { merchant = merchant; sealed = sealed })
IsMessage (message.Passed transaction part) = (transaction < 2 ^ 64) × (length part ≤ RECEIPT_BYTES)
IsMessage (message.StatusAsk query) = IsQuery query
IsMessage (message.TicketAsk ask) = IsAsk ask
IsMessage (message.Enrol enrolment) = IsEnrolment enrolment
IsMessage (message.Fund funding) = IsFunding funding
IsMessage (message.Done acct at balance) = (acct.0 < 2 ^ 32) × (at < 2 ^ 64) × (balance < 2 ^ 64)
IsMessage (message.Refusal refusal) = IsRefusal refusal
IsMessage other = MessageKeepsRules other
