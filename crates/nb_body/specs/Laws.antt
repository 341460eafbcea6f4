-- Spelling and reading are the two sides of one thing.
use Rattle.std.specs.Prelude.{◌≡◌, ℕ, ◌+◌, List, length, Ok}
use Rattle.nb_units.specs.Frames.{AreBytes}
use Rattle.nb_body.specs.declared.limits.TheConstants as limit
use Rattle.nb_body.specs.declared.endorsed.EndorsedOrder.{EndorsedOrder}
use Rattle.nb_body.specs.declared.query.StatusQuery.{StatusQuery}
use Rattle.nb_body.specs.declared.enrolment.Enrolment.{Enrolment}
use Rattle.nb_body.specs.declared.funding.Funding.{Funding}
use Rattle.nb_body.specs.declared.price_request.PriceRequest.{PriceRequest}
use Rattle.nb_body.specs.declared.quote.Quote.{Quote}
use Rattle.nb_body.specs.declared.goods_request.GoodsRequest.{GoodsRequest}
use Rattle.nb_body.specs.declared.goods_head.GoodsHead.{GoodsHead}
use Rattle.nb_body.specs.declared.payment_request.PaymentRequest.{PaymentRequest}
use Rattle.nb_body.specs.Spelling.{IsEndorsedOrder, endorsed_bytes, IsQuery, query_bytes, IsEnrolment, enrolment_bytes, IsFunding, funding_bytes, IsPriceRequest, price_request_bytes, IsQuote, quote_bytes, IsGoodsRequest, goods_request_bytes, IsGoodsHead, goods_head_bytes, IsPaymentRequest, payment_request_bytes}
use Rattle.nb_body.specs.Reading.{endorsed_of, query_of, enrolment_of, funding_of, price_request_of, quote_of, goods_request_of, goods_head_of, payment_request_of}

-- what was spelled of an endorsed order is read as that
abbrev pub EndorsedReadsBack : Type 0
EndorsedReadsBack = (o : EndorsedOrder) → IsEndorsedOrder o → endorsed_of (endorsed_bytes o) ≡ Ok o

-- what was read as an endorsed order is spelled as those bytes, and is within its limits
abbrev pub EndorsedSpellsBack : Type 0
EndorsedSpellsBack = (bytes : List ℕ) (o : EndorsedOrder) → AreBytes bytes → endorsed_of bytes ≡ Ok o → IsEndorsedOrder o × (bytes ≡ endorsed_bytes o)

-- how many bytes it has
abbrev pub EndorsedIsAsLong : Type 0
EndorsedIsAsLong = (o : EndorsedOrder) → IsEndorsedOrder o → length (endorsed_bytes o) ≡ 8 + length o.sealed

-- two of them with one spelling are one
abbrev pub OneEndorsed : Type 0
OneEndorsed = (a b : EndorsedOrder) → IsEndorsedOrder a → IsEndorsedOrder b → endorsed_bytes a ≡ endorsed_bytes b → a ≡ b

-- what was spelled of a status query is read as that
abbrev pub QueryReadsBack : Type 0
QueryReadsBack = (q : StatusQuery) → IsQuery q → query_of (query_bytes q) ≡ Ok q

-- what was read as a status query is spelled as those bytes, and is within its limits
abbrev pub QuerySpellsBack : Type 0
QuerySpellsBack = (bytes : List ℕ) (q : StatusQuery) → AreBytes bytes → query_of bytes ≡ Ok q → IsQuery q × (bytes ≡ query_bytes q)

-- how many bytes it has
abbrev pub QueryIsAsLong : Type 0
QueryIsAsLong = (q : StatusQuery) → IsQuery q → length (query_bytes q) ≡ 60

-- two of them with one spelling are one
abbrev pub OneQuery : Type 0
OneQuery = (a b : StatusQuery) → IsQuery a → IsQuery b → query_bytes a ≡ query_bytes b → a ≡ b

-- what was spelled of an enrolment is read as that
abbrev pub EnrolmentReadsBack : Type 0
EnrolmentReadsBack = (n : Enrolment) → IsEnrolment n → enrolment_of (enrolment_bytes n) ≡ Ok n

-- what was read as an enrolment is spelled as those bytes, and is within its limits
abbrev pub EnrolmentSpellsBack : Type 0
EnrolmentSpellsBack = (bytes : List ℕ) (n : Enrolment) → AreBytes bytes → enrolment_of bytes ≡ Ok n → IsEnrolment n × (bytes ≡ enrolment_bytes n)

-- how many bytes it has
abbrev pub EnrolmentIsAsLong : Type 0
EnrolmentIsAsLong = (n : Enrolment) → IsEnrolment n → length (enrolment_bytes n) ≡ 81

-- two of them with one spelling are one
abbrev pub OneEnrolment : Type 0
OneEnrolment = (a b : Enrolment) → IsEnrolment a → IsEnrolment b → enrolment_bytes a ≡ enrolment_bytes b → a ≡ b

-- what was spelled of a funding is read as that
abbrev pub FundingReadsBack : Type 0
FundingReadsBack = (f : Funding) → IsFunding f → funding_of (funding_bytes f) ≡ Ok f

-- what was read as a funding is spelled as those bytes, and is within its limits
abbrev pub FundingSpellsBack : Type 0
FundingSpellsBack = (bytes : List ℕ) (f : Funding) → AreBytes bytes → funding_of bytes ≡ Ok f → IsFunding f × (bytes ≡ funding_bytes f)

-- how many bytes it has
abbrev pub FundingIsAsLong : Type 0
FundingIsAsLong = (f : Funding) → IsFunding f → length (funding_bytes f) ≡ 60

-- two of them with one spelling are one
abbrev pub OneFunding : Type 0
OneFunding = (a b : Funding) → IsFunding a → IsFunding b → funding_bytes a ≡ funding_bytes b → a ≡ b

-- what was spelled of a request for a price is read as that
abbrev pub PriceRequestReadsBack : Type 0
PriceRequestReadsBack = (r : PriceRequest) → IsPriceRequest r → price_request_of (price_request_bytes r) ≡ Ok r

-- what was read as a request for a price is spelled as those bytes, and is within its limits
abbrev pub PriceRequestSpellsBack : Type 0
PriceRequestSpellsBack = (bytes : List ℕ) (r : PriceRequest) → AreBytes bytes → price_request_of bytes ≡ Ok r → IsPriceRequest r × (bytes ≡ price_request_bytes r)

-- how many bytes it has
abbrev pub PriceRequestIsAsLong : Type 0
PriceRequestIsAsLong = (r : PriceRequest) → IsPriceRequest r → length (price_request_bytes r) ≡ 16 + length r.request

-- two of them with one spelling are one
abbrev pub OnePriceRequest : Type 0
OnePriceRequest = (a b : PriceRequest) → IsPriceRequest a → IsPriceRequest b → price_request_bytes a ≡ price_request_bytes b → a ≡ b

-- what was spelled of a quote is read as that
abbrev pub QuoteReadsBack : Type 0
QuoteReadsBack = (q : Quote) → IsQuote q → quote_of (quote_bytes q) ≡ Ok q

-- what was read as a quote is spelled as those bytes, and is within its limits
abbrev pub QuoteSpellsBack : Type 0
QuoteSpellsBack = (bytes : List ℕ) (q : Quote) → AreBytes bytes → quote_of bytes ≡ Ok q → IsQuote q × (bytes ≡ quote_bytes q)

-- how many bytes it has
abbrev pub QuoteIsAsLong : Type 0
QuoteIsAsLong = (q : Quote) → IsQuote q → length (quote_bytes q) ≡ 20

-- two of them with one spelling are one
abbrev pub OneQuote : Type 0
OneQuote = (a b : Quote) → IsQuote a → IsQuote b → quote_bytes a ≡ quote_bytes b → a ≡ b

-- what was spelled of a request for goods is read as that
abbrev pub GoodsRequestReadsBack : Type 0
GoodsRequestReadsBack = (r : GoodsRequest) → IsGoodsRequest r → goods_request_of (goods_request_bytes r) ≡ Ok r

-- what was read as a request for goods is spelled as those bytes, and is within its limits
abbrev pub GoodsRequestSpellsBack : Type 0
GoodsRequestSpellsBack = (bytes : List ℕ) (r : GoodsRequest) → AreBytes bytes → goods_request_of bytes ≡ Ok r → IsGoodsRequest r × (bytes ≡ goods_request_bytes r)

-- how many bytes it has
abbrev pub GoodsRequestIsAsLong : Type 0
GoodsRequestIsAsLong = (r : GoodsRequest) → IsGoodsRequest r → length (goods_request_bytes r) ≡ 16

-- two of them with one spelling are one
abbrev pub OneGoodsRequest : Type 0
OneGoodsRequest = (a b : GoodsRequest) → IsGoodsRequest a → IsGoodsRequest b → goods_request_bytes a ≡ goods_request_bytes b → a ≡ b

-- what was spelled of a head of goods is read as that
abbrev pub GoodsHeadReadsBack : Type 0
GoodsHeadReadsBack = (h : GoodsHead) → IsGoodsHead h → goods_head_of (goods_head_bytes h) ≡ Ok h

-- what was read as a head of goods is spelled as those bytes, and is within its limits
abbrev pub GoodsHeadSpellsBack : Type 0
GoodsHeadSpellsBack = (bytes : List ℕ) (h : GoodsHead) → AreBytes bytes → goods_head_of bytes ≡ Ok h → IsGoodsHead h × (bytes ≡ goods_head_bytes h)

-- how many bytes it has
abbrev pub GoodsHeadIsAsLong : Type 0
GoodsHeadIsAsLong = (h : GoodsHead) → IsGoodsHead h → length (goods_head_bytes h) ≡ 72

-- two of them with one spelling are one
abbrev pub OneGoodsHead : Type 0
OneGoodsHead = (a b : GoodsHead) → IsGoodsHead a → IsGoodsHead b → goods_head_bytes a ≡ goods_head_bytes b → a ≡ b

-- what was spelled of an order for its merchant is read as that
abbrev pub PaymentRequestReadsBack : Type 0
PaymentRequestReadsBack = (r : PaymentRequest) → IsPaymentRequest r → payment_request_of (payment_request_bytes r) ≡ Ok r

-- what was read as an order for its merchant is spelled as those bytes, and is within its limits
abbrev pub PaymentRequestSpellsBack : Type 0
PaymentRequestSpellsBack = (bytes : List ℕ) (r : PaymentRequest) → AreBytes bytes → payment_request_of bytes ≡ Ok r → IsPaymentRequest r × (bytes ≡ payment_request_bytes r)

-- how many bytes it has
abbrev pub PaymentRequestIsAsLong : Type 0
PaymentRequestIsAsLong = (r : PaymentRequest) → IsPaymentRequest r → length (payment_request_bytes r) ≡ 12 + length r.order

-- two of them with one spelling are one
abbrev pub OnePaymentRequest : Type 0
OnePaymentRequest = (a b : PaymentRequest) → IsPaymentRequest a → IsPaymentRequest b → payment_request_bytes a ≡ payment_request_bytes b → a ≡ b

-- the roles and limits in numbers
abbrev pub BodyLimitsAre : Type 0
BodyLimitsAre = (limit.CONSUMER_ROLE ≡ 1) × (limit.MERCHANT_ROLE ≡ 2) × (limit.MAX_AMOUNT ≡ 1000000000000000000) × (limit.MAX_REQUEST ≡ 64) × (limit.MAX_ENDORSED ≡ 420)

-- how many bytes the texts have, or have at most, before they are sealed
abbrev pub TextLimitsAre : Type 0
TextLimitsAre = (limit.MAX_PRICE_REQUEST ≡ 80) × (limit.QUOTE_BYTES ≡ 20) × (limit.GOODS_REQUEST_BYTES ≡ 16) × (limit.GOODS_HEAD_BYTES ≡ 72) × (limit.MAX_PAYMENT_REQUEST ≡ 292)
