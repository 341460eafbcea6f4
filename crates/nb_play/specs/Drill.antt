-- What a drill sends: the frame at each place, as a function of the seed.
use Rattle.std.specs.Prelude.{ℕ, ◌+◌, ◌*◌, ◌-◌, ◌/◌, ◌%◌, List, [], ◌++◌, codes, length, take, replicate, nat_lt, if◌then◌else◌}
use Rattle.sha2.specs.Sha256.{sha256}
use Rattle.nb_units.specs.Fields.{be4, be8}
use Rattle.nb_units.specs.Frames.{Frame, frame}
use Rattle.nb_units.specs.declared.frames.TheConstants.{ENROL_REQUEST, FUND_REQUEST, ORDER_REQUEST}
use Rattle.nb_units.specs.declared.ids.AcctId.{AcctId}
use Rattle.nb_units.specs.declared.ids.PartyId.{PartyId}
use Rattle.nb_seal.specs.Hmac.{hmac_of}
use Rattle.nb_seal.specs.Seal.{seal_of}
use Rattle.nb_body.specs.declared.limits.TheConstants.{CONSUMER_ROLE, MERCHANT_ROLE}
use Rattle.nb_body.specs.declared.enrolment.Enrolment.{Enrolment}
use Rattle.nb_body.specs.declared.funding.Funding.{Funding}
use Rattle.nb_body.specs.Spelling.{enrolment_bytes, funding_bytes, endorsed_bytes}
use Rattle.nb_epo.specs.declared.order.Order.{Order}
use Rattle.nb_epo.specs.Spelling.{order_bytes, hidden_bytes}
use Rattle.nb_epo.specs.Tags.{signed_order}
use Rattle.nb_goods.specs.Goods.{goods_key_of}
use Rattle.nb_endorse.specs.declared.endorsement.Endorsement.{Endorsement}
use Rattle.nb_endorse.specs.Spelling.{endorsement_bytes}
use Rattle.nb_play.specs.declared.frames.TheConstants.{HOUSE_NAME, OPERATOR_NAME, FIRST_MERCHANT, PARTIES, CONSUMERS, MERCHANTS, MOST_PRICE, FUNDED, MOMENT, NOTHING}
use Rattle.nb_play.specs.Draws.{draw_of}

-- the key of a name: every party has its number as its name
abbrev pub key_of : ℕ → ℕ → List ℕ
key_of seed name = sha256 (be8 seed ++ be4 name)

-- the house's key, the operator's, and zeros for the index
abbrev pub head_of : ℕ → List ℕ
head_of seed = key_of seed HOUSE_NAME ++ key_of seed OPERATOR_NAME ++ replicate 16 0

-- the party of number n
abbrev pub party : ℕ → PartyId
party n = record { 0 = n }

-- the account of number n
abbrev pub account : ℕ → AcctId
account n = record { 0 = n }

-- the tag of a body, in its last 32 bytes: over a label and all before it, under the operator's key
abbrev pub tag_of : ℕ → List ℕ → List ℕ → List ℕ
tag_of seed label body = hmac_of (key_of seed OPERATOR_NAME) (label ++ take (length body - 32) body)

-- party n, from 1 on, before the operator's tag: the first ones are consumers
abbrev pub party_of : ℕ → ℕ → Enrolment
party_of seed n = record {
  id = party n;
  role = if nat_lt n FIRST_MERCHANT then CONSUMER_ROLE else MERCHANT_ROLE;
  acct = account n;
  nonce = n;
  key = key_of seed n;
  tag = NOTHING;
}

-- the enrolment of party n, with the operator's tag
abbrev pub enrolment : ℕ → ℕ → Enrolment
enrolment seed n = record (party_of seed n) { tag = tag_of seed (codes "enro") (enrolment_bytes (party_of seed n)) }

-- the money for account n, before the operator's tag: its reference is the account, in 16 bytes
abbrev pub money_of : ℕ → Funding
money_of n = record { acct = account n; amount = FUNDED; reference = replicate 12 0 ++ be4 n; tag = NOTHING }

-- the money for account n, with the operator's tag
abbrev pub funding : ℕ → ℕ → Funding
funding seed n = record (money_of n) { tag = tag_of seed (codes "fund") (funding_bytes (money_of n)) }

-- who buys in order i, from whom, and for what price
abbrev pub consumer_of : ℕ → ℕ → ℕ
consumer_of seed i = 1 + draw_of seed (3 * i) % CONSUMERS

-- whom it buys from in order i
abbrev pub merchant_of : ℕ → ℕ → ℕ
merchant_of seed i = FIRST_MERCHANT + draw_of seed (3 * i + 1) % MERCHANTS

-- for what price it buys in order i
abbrev pub price_of : ℕ → ℕ → ℕ
price_of seed i = 1 + draw_of seed (3 * i + 2) % MOST_PRICE

-- order i before the consumer's tag, between these two: product i, with nothing in the digests and in the consumer's note
abbrev pub terms_of : ℕ → ℕ → ℕ → ℕ → Order
terms_of seed i consumer merchant = record {
  consumer = party consumer;
  merchant = party merchant;
  product = i;
  price = record { 0 = price_of seed i };
  epoid = record { merchant = party merchant; moment = MOMENT; serial = i };
  checksum = NOTHING;
  request = NOTHING;
  account = NOTHING;
  hidden = seal_of (key_of seed consumer) (codes "hide") (hidden_bytes (record { acct = account consumer; nonce = consumer; memo = [] }));
  tag = NOTHING;
}

-- order i, with the consumer's tag
abbrev pub order_of : ℕ → ℕ → ℕ → ℕ → Order
order_of seed i consumer merchant = signed_order (key_of seed consumer) (terms_of seed i consumer merchant)

-- its endorsement: the goods have the key of serial number i, and the merchant's note is empty
abbrev pub endorsement_of : ℕ → ℕ → ℕ → ℕ → Endorsement
endorsement_of seed i consumer merchant = record {
  order = order_bytes (order_of seed i consumer merchant);
  macct = account merchant;
  memo = [];
  key = goods_key_of (key_of seed merchant) (party merchant) i;
}

-- the body that hands it in
abbrev pub endorsed : ℕ → ℕ → ℕ → ℕ → List ℕ
endorsed seed i consumer merchant = endorsed_bytes (record {
  merchant = party merchant;
  sealed = seal_of (key_of seed merchant) (codes "endo") (endorsement_bytes (endorsement_of seed i consumer merchant));
})

-- the frame that hands order i in
abbrev pub order_frame : ℕ → ℕ → Frame
order_frame seed i = record { kind = ORDER_REQUEST; body = endorsed seed i (consumer_of seed i) (merchant_of seed i) }

-- the frame at a place: the parties, the consumers' money, and each order twice
abbrev pub frame_at : ℕ → ℕ → Frame
frame_at seed place =
    if nat_lt place PARTIES then record { kind = ENROL_REQUEST; body = enrolment_bytes (enrolment seed (place + 1)) }
    else if nat_lt place (PARTIES + CONSUMERS) then record { kind = FUND_REQUEST; body = funding_bytes (funding seed (place + 1 - PARTIES)) }
    else order_frame seed ((place - (PARTIES + CONSUMERS)) / 2)

-- the bytes of that frame
abbrev pub frame_bytes : ℕ → ℕ → List ℕ
frame_bytes seed place = frame (frame_at seed place)
