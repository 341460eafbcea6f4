-- What bytes spell, read field by field at the place of each: the value, or the place of the first field that fails.
use Rattle.std.specs.Prelude.{ℕ, ◌+◌, ◌==◌, ◌||◌, ◌&&◌, Bool, nat_le, List, length, Result, Ok}
use Rattle.nb_units.specs.Fields.{◌>>=◌, u8_at, u32_at, u64_at, raw_at, bytes_at, done_at, or_place, allowed}
use Rattle.nb_units.specs.Epoid.{epoid_of}
use Rattle.nb_units.specs.declared.limits.TheConstants.{MAX_ORDER}
use Rattle.nb_body.specs.declared.limits.TheConstants.{CONSUMER_ROLE, MERCHANT_ROLE, MAX_AMOUNT, MAX_REQUEST, MAX_ENDORSED}
use Rattle.nb_body.specs.declared.endorsed.EndorsedOrder.{EndorsedOrder}
use Rattle.nb_body.specs.declared.query.StatusQuery.{StatusQuery}
use Rattle.nb_body.specs.declared.enrolment.Enrolment.{Enrolment}
use Rattle.nb_body.specs.declared.funding.Funding.{Funding}
use Rattle.nb_body.specs.declared.price_request.PriceRequest.{PriceRequest}
use Rattle.nb_body.specs.declared.quote.Quote.{Quote}
use Rattle.nb_body.specs.declared.goods_request.GoodsRequest.{GoodsRequest}
use Rattle.nb_body.specs.declared.goods_head.GoodsHead.{GoodsHead}
use Rattle.nb_body.specs.declared.payment_request.PaymentRequest.{PaymentRequest}

-- the tests of a role and of an amount
abbrev pub is_role : ℕ → Bool
is_role role = role == CONSUMER_ROLE || role == MERCHANT_ROLE

-- whether a number is an amount that may be moved
abbrev pub is_amount : ℕ → Bool
is_amount amount = nat_le 1 amount && nat_le amount MAX_AMOUNT

-- an endorsed order: merchant 4 | endorsement, sealed, at most MAX_ENDORSED, behind its length 4
unfoldable pub endorsed_of : List ℕ → Result EndorsedOrder ℕ
endorsed_of bytes = do
  merchant ← or_place (u32_at bytes 0)
  sealed ← or_place (bytes_at MAX_ENDORSED bytes 4)
  end ← or_place (done_at bytes (8 + length sealed))
  Ok (record { merchant = record { 0 = merchant }; sealed = sealed })

-- a status query: asker 4 | identifier 16 | least 8 | tag 32
unfoldable pub query_of : List ℕ → Result StatusQuery ℕ
query_of bytes = do
  asker ← or_place (u32_at bytes 0)
  epoid ← or_place (raw_at 16 bytes 4)
  least ← or_place (u64_at bytes 20)
  tag ← or_place (raw_at 32 bytes 28)
  end ← or_place (done_at bytes 60)
  Ok (record { asker = record { 0 = asker }; epoid = epoid_of epoid; least = least; tag = tag })

-- an enrolment: id 4 | role 1, 1 or 2 | account 4 | nonce 8 | key 32 | tag 32
unfoldable pub enrolment_of : List ℕ → Result Enrolment ℕ
enrolment_of bytes = do
  id ← or_place (u32_at bytes 0)
  role ← or_place (u8_at bytes 4)
  known ← allowed (is_role role) 4
  acct ← or_place (u32_at bytes 5)
  nonce ← or_place (u64_at bytes 9)
  key ← or_place (raw_at 32 bytes 17)
  tag ← or_place (raw_at 32 bytes 49)
  end ← or_place (done_at bytes 81)
  Ok (record { id = record { 0 = id }; role = role; acct = record { 0 = acct }; nonce = nonce; key = key; tag = tag })

-- a funding: account 4 | amount 8, from 1 to MAX_AMOUNT | reference 16 | tag 32
unfoldable pub funding_of : List ℕ → Result Funding ℕ
funding_of bytes = do
  acct ← or_place (u32_at bytes 0)
  amount ← or_place (u64_at bytes 4)
  known ← allowed (is_amount amount) 4
  reference ← or_place (raw_at 16 bytes 12)
  tag ← or_place (raw_at 32 bytes 28)
  end ← or_place (done_at bytes 60)
  Ok (record { acct = record { 0 = acct }; amount = amount; reference = reference; tag = tag })

-- a request for a price: transaction 8 | product 4 | request, at most MAX_REQUEST, behind its length 4
unfoldable pub price_request_of : List ℕ → Result PriceRequest ℕ
price_request_of bytes = do
  transaction ← or_place (u64_at bytes 0)
  product ← or_place (u32_at bytes 8)
  request ← or_place (bytes_at MAX_REQUEST bytes 12)
  end ← or_place (done_at bytes (16 + length request))
  Ok (record { transaction = transaction; product = product; request = request })

-- a quote: transaction 8 | product 4 | price 8
unfoldable pub quote_of : List ℕ → Result Quote ℕ
quote_of bytes = do
  transaction ← or_place (u64_at bytes 0)
  product ← or_place (u32_at bytes 8)
  price ← or_place (u64_at bytes 12)
  end ← or_place (done_at bytes 20)
  Ok (record { transaction = transaction; product = product; price = record { 0 = price } })

-- a request for goods: transaction 8 | place 8
unfoldable pub goods_request_of : List ℕ → Result GoodsRequest ℕ
goods_request_of bytes = do
  transaction ← or_place (u64_at bytes 0)
  place ← or_place (u64_at bytes 8)
  end ← or_place (done_at bytes 16)
  Ok (record { transaction = transaction; place = place })

-- a head of goods: transaction 8 | identifier 16 | total 8 | place 8 | checksum 32
unfoldable pub goods_head_of : List ℕ → Result GoodsHead ℕ
goods_head_of bytes = do
  transaction ← or_place (u64_at bytes 0)
  epoid ← or_place (raw_at 16 bytes 8)
  total ← or_place (u64_at bytes 24)
  place ← or_place (u64_at bytes 32)
  checksum ← or_place (raw_at 32 bytes 40)
  end ← or_place (done_at bytes 72)
  Ok (record { transaction = transaction; epoid = epoid_of epoid; total = total; place = place; checksum = checksum })

-- an order for its merchant: transaction 8 | order, at most MAX_ORDER, behind its length 4
unfoldable pub payment_request_of : List ℕ → Result PaymentRequest ℕ
payment_request_of bytes = do
  transaction ← or_place (u64_at bytes 0)
  order ← or_place (bytes_at MAX_ORDER bytes 8)
  end ← or_place (done_at bytes (12 + length order))
  Ok (record { transaction = transaction; order = order })
