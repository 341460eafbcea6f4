-- The one spelling of what the house is asked, and of what a consumer and a merchant seal for each other. Numbers are big-endian; a
-- text has its length before it, in four bytes.
use Rattle.std.specs.Prelude.{◌≡◌, ◌⊎◌, ℕ, ◌<◌, ◌≤◌, ◌^◌, List, [], ◌∷◌, ◌++◌, length}
use Rattle.nb_units.specs.Fields.{be4, be8, sized}
use Rattle.nb_units.specs.Epoid.{IsEpoid, epoid_bytes}
use Rattle.nb_units.specs.declared.limits.TheConstants.{MAX_ORDER}
use Rattle.nb_body.specs.declared.limits.TheConstants.{CONSUMER_ROLE, MERCHANT_ROLE, MAX_AMOUNT, MAX_REQUEST, MAX_ENDORSED}
use Rattle.nb_body.specs.declared.endorsed.EndorsedOrder.{EndorsedOrder}
use Rattle.nb_body.specs.declared.query.StatusQuery.{StatusQuery}
use Rattle.nb_body.specs.declared.enrolment.Enrolment.{Enrolment}
use Rattle.nb_body.specs.declared.funding.Funding.{Funding}
use Rattle.nb_body.specs.declared.price_request.PriceRequest.{PriceRequest}
use Rattle.nb_body.specs.declared.quote.Quote.{Quote}
use Rattle.nb_body.specs.declared.goods_request.GoodsRequest.{GoodsRequest}
use Rattle.nb_body.specs.declared.goods_head.GoodsHead.{GoodsHead}
use Rattle.nb_body.specs.declared.payment_request.PaymentRequest.{PaymentRequest}

-- a party may be enrolled in this role
abbrev pub IsRole : ℕ → Type 0
IsRole role = (role ≡ CONSUMER_ROLE) ⊎ (role ≡ MERCHANT_ROLE)

-- a request for the payment of an order: merchant 4 | endorsement, sealed, at most MAX_ENDORSED, behind its length 4
unfoldable pub endorsed_bytes : EndorsedOrder → List ℕ
endorsed_bytes o = be4 o.merchant.0 ++ sized o.sealed

-- each field of an endorsed order is within its limits
pub record IsEndorsedOrder (o : EndorsedOrder) : Type 0 where
  pub merchant : o.merchant.0 < 2 ^ 32
  pub sealed : length o.sealed ≤ MAX_ENDORSED

-- a status query: asker 4 | identifier 16 | least 8 | tag 32
unfoldable pub query_bytes : StatusQuery → List ℕ
query_bytes q = be4 q.asker.0 ++ epoid_bytes q.epoid ++ be8 q.least ++ q.tag

-- each field of a status query is within its limits
pub record IsQuery (q : StatusQuery) : Type 0 where
  pub asker : q.asker.0 < 2 ^ 32
  pub epoid : IsEpoid q.epoid
  pub least : q.least < 2 ^ 64
  pub tag : length q.tag ≡ 32

-- an enrolment: id 4 | role 1, 1 or 2 | account 4 | nonce 8 | key 32 | tag 32
unfoldable pub enrolment_bytes : Enrolment → List ℕ
enrolment_bytes n = be4 n.id.0 ++ (n.role ∷ []) ++ be4 n.acct.0 ++ be8 n.nonce ++ n.key ++ n.tag

-- each field of an enrolment is within its limits
pub record IsEnrolment (n : Enrolment) : Type 0 where
  pub id : n.id.0 < 2 ^ 32
  pub role : IsRole n.role
  pub acct : n.acct.0 < 2 ^ 32
  pub nonce : n.nonce < 2 ^ 64
  pub key : length n.key ≡ 32
  pub tag : length n.tag ≡ 32

-- a funding: account 4 | amount 8, from 1 to MAX_AMOUNT | reference 16 | tag 32
unfoldable pub funding_bytes : Funding → List ℕ
funding_bytes f = be4 f.acct.0 ++ be8 f.amount ++ f.reference ++ f.tag

-- each field of a funding is within its limits
pub record IsFunding (f : Funding) : Type 0 where
  pub acct : f.acct.0 < 2 ^ 32
  pub amount : (1 ≤ f.amount) × (f.amount ≤ MAX_AMOUNT)
  pub reference : length f.reference ≡ 16
  pub tag : length f.tag ≡ 32

-- a consumer's request for a price, before it is sealed: transaction 8 | product 4 | request, at most MAX_REQUEST, behind its length 4
unfoldable pub price_request_bytes : PriceRequest → List ℕ
price_request_bytes r = be8 r.transaction ++ be4 r.product ++ sized r.request

-- each field of a request for a price is within its limits
pub record IsPriceRequest (r : PriceRequest) : Type 0 where
  pub transaction : r.transaction < 2 ^ 64
  pub product : r.product < 2 ^ 32
  pub request : length r.request ≤ MAX_REQUEST

-- a quote, before it is sealed: transaction 8 | product 4 | price 8
unfoldable pub quote_bytes : Quote → List ℕ
quote_bytes q = be8 q.transaction ++ be4 q.product ++ be8 q.price.0

-- each field of a quote is within its limits
pub record IsQuote (q : Quote) : Type 0 where
  pub transaction : q.transaction < 2 ^ 64
  pub product : q.product < 2 ^ 32
  pub price : q.price.0 < 2 ^ 64

-- a consumer's request for goods, before it is sealed: transaction 8 | place 8
unfoldable pub goods_request_bytes : GoodsRequest → List ℕ
goods_request_bytes r = be8 r.transaction ++ be8 r.place

-- each field of a request for goods is within its limits
pub record IsGoodsRequest (r : GoodsRequest) : Type 0 where
  pub transaction : r.transaction < 2 ^ 64
  pub place : r.place < 2 ^ 64

-- the head of a part of the goods, before it is sealed: transaction 8 | identifier 16 | total 8 | place 8 | checksum 32
unfoldable pub goods_head_bytes : GoodsHead → List ℕ
goods_head_bytes h = be8 h.transaction ++ epoid_bytes h.epoid ++ be8 h.total ++ be8 h.place ++ h.checksum

-- each field of a head of goods is within its limits
pub record IsGoodsHead (h : GoodsHead) : Type 0 where
  pub transaction : h.transaction < 2 ^ 64
  pub epoid : IsEpoid h.epoid
  pub total : h.total < 2 ^ 64
  pub place : h.place < 2 ^ 64
  pub checksum : length h.checksum ≡ 32

-- a consumer's order for its merchant, before it is sealed: transaction 8 | order, at most MAX_ORDER, behind its length 4
unfoldable pub payment_request_bytes : PaymentRequest → List ℕ
payment_request_bytes r = be8 r.transaction ++ sized r.order

-- each field of an order for its merchant is within its limits
pub record IsPaymentRequest (r : PaymentRequest) : Type 0 where
  pub transaction : r.transaction < 2 ^ 64
  pub order : length r.order ≤ MAX_ORDER
