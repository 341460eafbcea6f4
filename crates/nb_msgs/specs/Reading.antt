-- What a body says, read field by field at the place of each: the message, or the place of the first field that fails.
use Rattle.std.specs.Prelude.{ℕ, ◌+◌, ◌==◌, nat_lt, if◌then◌else◌, List, length, Result, Ok, Err}
use Rattle.nb_units.specs.Fields.{◌>>=◌, u8_at, u32_at, u64_at, raw_at, bytes_at, done_at, or_place}
use Rattle.nb_units.specs.declared.frames.TheConstants.{PRICE_REQUEST, QUOTE_REPLY, GOODS_REQUEST, GOODS_REPLY, PAYMENT_REQUEST, ORDER_REQUEST, RESULT_REPLY, PAYMENT_REPLY, STATUS_REQUEST, STATUS_REPLY, TICKET_REQUEST, GRANT_REPLY, ENROL_REQUEST, FUND_REQUEST, DONE_REPLY, REFUSED_REPLY}
pub use Rattle.nb_body.specs.Reads.{ReadsBody}
use Rattle.nb_body.specs.Reading.{endorsed_of, query_of, enrolment_of, funding_of}
use Rattle.nb_endorse.specs.declared.receipt.TheConstants.{RECEIPT_BYTES}
use Rattle.nb_ticket.specs.declared.ticket.TheConstants.{TICKET_BYTES}
use Rattle.nb_ticket.specs.declared.granted.TheConstants.{GRANT_BYTES}
use Rattle.nb_ticket.specs.Reading.{ask_of}
use Rattle.nb_goods.specs.declared.limits.TheConstants.{PART_BYTES}
use Rattle.nb_msgs.specs.declared.lengths.TheConstants.{MAX_SEALED_PRICE_REQUEST, MAX_SEALED_QUOTE, MAX_SEALED_GOODS_REQUEST, MAX_SEALED_HEAD, MAX_SEALED_PAYMENT}
use Rattle.nb_msgs.specs.declared.status.TheConstants.{MOST_STATUS}
use Rattle.nb_msgs.specs.declared.message.Message.{Message}
use Rattle.nb_msgs.specs.declared.message.Message.TheVariants as message

-- two texts of at most so many bytes, each behind its length
unfoldable pub two_texts_of : ℕ → ℕ → List ℕ → Result (List ℕ × List ℕ) ℕ
two_texts_of most_first most_second body = do
  first ← or_place (bytes_at most_first body 0)
  second ← or_place (bytes_at most_second body (4 + length first))
  end ← or_place (done_at body (4 + length first + 4 + length second))
  Ok (first, second)

-- a purchase's number 8 | a text of at most so many bytes, behind its length
unfoldable pub numbered_text_of : ℕ → List ℕ → Result (ℕ × List ℕ) ℕ
numbered_text_of most body = do
  transaction ← or_place (u64_at body 0)
  text ← or_place (bytes_at most body 8)
  end ← or_place (done_at body (12 + length text))
  Ok (transaction, text)

-- a body that is sealed as a whole, of at most so many bytes: a longer one is bad behind them
abbrev pub whole_of : ℕ → List ℕ → Result (List ℕ) ℕ
whole_of most body = if nat_lt most (length body) then Err most else Ok body

-- a purchase's number 8 | head, sealed, at most MAX_SEALED_HEAD, behind its length 4 | part, at most PART_BYTES, behind its length 4
unfoldable pub goods_of : List ℕ → Result Message ℕ
goods_of body = do
  transaction ← or_place (u64_at body 0)
  head ← or_place (bytes_at MAX_SEALED_HEAD body 8)
  part ← or_place (bytes_at PART_BYTES body (12 + length head))
  end ← or_place (done_at body (12 + length head + 4 + length part))
  Ok (message.Goods transaction head part)

-- account 4 | place 8 | balance 8
unfoldable pub done_of : List ℕ → Result Message ℕ
done_of body = do
  acct ← or_place (u32_at body 0)
  at ← or_place (u64_at body 4)
  balance ← or_place (u64_at body 12)
  end ← or_place (done_at body 20)
  Ok (message.Done (record { 0 = acct }) at balance)

-- code 1 | two numbers of 8 | 32 bytes
unfoldable pub refusal_of : List ℕ → Result Message ℕ
refusal_of body = do
  code ← or_place (u8_at body 0)
  a ← or_place (u64_at body 1)
  b ← or_place (u64_at body 9)
  x ← or_place (raw_at 32 body 17)
  end ← or_place (done_at body 49)
  Ok (message.Refusal (record { code = code; a = a; b = b; x = x }))

-- what was read is the part of a message
abbrev pub made : {A : Type 0} → (A → Message) → Result A ℕ → Result Message ℕ
made message_with (Ok x) = Ok (message_with x)
made message_with (Err place) = Err place

-- the body of each kind that is a text or two, or a record
abbrev pub price_ask_of : List ℕ → Result Message ℕ
price_ask_of body = made (λ p. message.PriceAsk p.0 p.1) (two_texts_of TICKET_BYTES MAX_SEALED_PRICE_REQUEST body)

-- the message of kind 02 that a body spells, or the bad place
abbrev pub quote_of : List ℕ → Result Message ℕ
quote_of body = made (λ p. message.Quote p.0 p.1) (numbered_text_of MAX_SEALED_QUOTE body)

-- the message of kind 03 that a body spells, or the bad place
abbrev pub goods_ask_of : List ℕ → Result Message ℕ
goods_ask_of body = made (λ p. message.GoodsAsk p.0 p.1) (two_texts_of TICKET_BYTES MAX_SEALED_GOODS_REQUEST body)

-- the message of kind 05 that a body spells, or the bad place
abbrev pub payment_of : List ℕ → Result Message ℕ
payment_of body = made (λ p. message.Order p.0 p.1) (two_texts_of TICKET_BYTES MAX_SEALED_PAYMENT body)

-- the message of kind 06 that a body spells, or the bad place
abbrev pub endorsed_message_of : List ℕ → Result Message ℕ
endorsed_message_of body = made (λ o. message.Endorsed o.merchant o.sealed) (endorsed_of body)

-- the message of kind 07 that a body spells, or the bad place
abbrev pub result_of : List ℕ → Result Message ℕ
result_of body = made (λ p. message.Result p.0 p.1) (two_texts_of RECEIPT_BYTES RECEIPT_BYTES body)

-- the message of kind 08 that a body spells, or the bad place
abbrev pub passed_of : List ℕ → Result Message ℕ
passed_of body = made (λ p. message.Passed p.0 p.1) (numbered_text_of RECEIPT_BYTES body)

-- the message of kind 0A that a body spells, or the bad place
abbrev pub status_of : List ℕ → Result Message ℕ
status_of body = made message.Status (whole_of MOST_STATUS body)

-- the message of kind 0C that a body spells, or the bad place
abbrev pub grant_of : List ℕ → Result Message ℕ
grant_of body = made message.Grant (whole_of GRANT_BYTES body)

-- the message of a kind that a body spells, or the bad place. No message has another kind than these
abbrev pub message_of : ℕ → List ℕ → Result Message ℕ
message_of kind body =
    if kind == PRICE_REQUEST then price_ask_of body
    else if kind == QUOTE_REPLY then quote_of body
    else if kind == GOODS_REQUEST then goods_ask_of body
    else if kind == GOODS_REPLY then goods_of body
    else if kind == PAYMENT_REQUEST then payment_of body
    else if kind == ORDER_REQUEST then endorsed_message_of body
    else if kind == RESULT_REPLY then result_of body
    else if kind == PAYMENT_REPLY then passed_of body
    else if kind == STATUS_REQUEST then made message.StatusAsk (query_of body)
    else if kind == STATUS_REPLY then status_of body
    else if kind == TICKET_REQUEST then made message.TicketAsk (ask_of body)
    else if kind == GRANT_REPLY then grant_of body
    else if kind == ENROL_REQUEST then made message.Enrol (enrolment_of body)
    else if kind == FUND_REQUEST then made message.Fund (funding_of body)
    else if kind == DONE_REPLY then done_of body
    else if kind == REFUSED_REPLY then refusal_of body
    else Err 0
