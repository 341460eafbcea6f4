-- The records as rows of fields.
use Rattle.std.proofs.Common.{◌≡◌, ℕ, ◌<◌, ◌≤◌, ◌^◌, true, List, length, Ok, refl, sym, ap, subst, ◌∙◌, arith}
use Rattle.std.proofs.lemmas.Bool.{eqb-true, leb-true, eq-eqb, le-leb}
use Rattle.nb_units.proofs.Rows.{Row, IsRow, ◌&◌, and_row, tested, tested_row, byte, byte_row, number4, number4_row, number8, number8_row, epoid, epoid_row, raw, raw_row, text, text_row, whole, whole_found, whole_reads, ok_is}
use Rattle.nb_units.specs.declared.epoid.Epoid.{Epoid}
use Rattle.nb_units.specs.declared.limits.TheConstants.{MAX_ORDER}
use Rattle.nb_body.specs.declared.limits.TheConstants.{MAX_AMOUNT, MAX_REQUEST, MAX_ENDORSED}
use Rattle.nb_body.specs.declared.endorsed.EndorsedOrder.{EndorsedOrder}
use Rattle.nb_body.specs.declared.query.StatusQuery.{StatusQuery}
use Rattle.nb_body.specs.declared.enrolment.Enrolment.{Enrolment}
use Rattle.nb_body.specs.declared.funding.Funding.{Funding}
use Rattle.nb_body.specs.declared.price_request.PriceRequest.{PriceRequest}
use Rattle.nb_body.specs.declared.quote.Quote.{Quote}
use Rattle.nb_body.specs.declared.goods_request.GoodsRequest.{GoodsRequest}
use Rattle.nb_body.specs.declared.goods_head.GoodsHead.{GoodsHead}
use Rattle.nb_body.specs.declared.payment_request.PaymentRequest.{PaymentRequest}
use Rattle.nb_body.specs.Spelling.{IsRole, IsEndorsedOrder, endorsed_bytes, IsQuery, query_bytes, IsEnrolment, enrolment_bytes, IsFunding, funding_bytes, IsPriceRequest, price_request_bytes, IsQuote, quote_bytes, IsGoodsRequest, goods_request_bytes, IsGoodsHead, goods_head_bytes, IsPaymentRequest, payment_request_bytes}
use Rattle.nb_body.specs.Reading.{is_role, is_amount, endorsed_of, query_of, enrolment_of, funding_of, price_request_of, quote_of, goods_request_of, goods_head_of, payment_request_of}
use Rattle.nb_body.specs.Laws.{EndorsedReadsBack, EndorsedSpellsBack, EndorsedIsAsLong, OneEndorsed, QueryReadsBack, QuerySpellsBack, QueryIsAsLong, OneQuery, EnrolmentReadsBack, EnrolmentSpellsBack, EnrolmentIsAsLong, OneEnrolment, FundingReadsBack, FundingSpellsBack, FundingIsAsLong, OneFunding, PriceRequestReadsBack, PriceRequestSpellsBack, PriceRequestIsAsLong, OnePriceRequest, QuoteReadsBack, QuoteSpellsBack, QuoteIsAsLong, OneQuote, GoodsRequestReadsBack, GoodsRequestSpellsBack, GoodsRequestIsAsLong, OneGoodsRequest, GoodsHeadReadsBack, GoodsHeadSpellsBack, GoodsHeadIsAsLong, OneGoodsHead, PaymentRequestReadsBack, PaymentRequestSpellsBack, PaymentRequestIsAsLong, OnePaymentRequest}

-- ---- tests of values

role_is : (role : ℕ) → is_role role ≡ true → IsRole role
role_is role e = grind (arith, eqb-true)

role_tested : (role : ℕ) → IsRole role → is_role role ≡ true
role_tested role is = grind (arith, eq-eqb)

role_fits : (role : ℕ) → IsRole role → role < 2 ^ 8
role_fits role is = grind arith

amount_is : (amount : ℕ) → is_amount amount ≡ true → (1 ≤ amount) × (amount ≤ MAX_AMOUNT)
amount_is amount e = grind (arith, leb-true)

amount_tested : (amount : ℕ) → (1 ≤ amount) × (amount ≤ MAX_AMOUNT) → is_amount amount ≡ true
amount_tested amount is = grind (arith, le-leb)

-- ---- an endorsed order

abbrev EndorsedParts : Type 0
EndorsedParts = ℕ × List ℕ

abbrev endorsed_row : Row EndorsedParts
endorsed_row = number4 & text MAX_ENDORSED

is_endorsed_row : IsRow endorsed_row
is_endorsed_row = and_row number4_row (text_row MAX_ENDORSED (omega arith))

abbrev endorsed_made : EndorsedParts → EndorsedOrder
endorsed_made p = record { merchant = record { 0 = p.0 }; sealed = p.1 }

endorsed_read_so : (bytes : List ℕ) → endorsed_of bytes ≡ whole endorsed_row EndorsedOrder bytes (λ p. Ok (endorsed_made p))
unfolding endorsed_of
endorsed_read_so bytes = refl

endorsed_spelled_so : (p : EndorsedParts) → endorsed_row.spelled p ≡ endorsed_bytes (endorsed_made p)
unfolding endorsed_bytes
endorsed_spelled_so p = refl

pub endorsed_spells_back : EndorsedSpellsBack
endorsed_spells_back bytes o are e =
    let w = whole_found endorsed_row is_endorsed_row EndorsedOrder bytes (λ p. Ok (endorsed_made p)) o are (sym (endorsed_read_so bytes) ∙ e) in
    subst (λ (x : EndorsedOrder). IsEndorsedOrder x × (bytes ≡ endorsed_bytes x)) (ok_is (endorsed_made w.0) o w.3)
    (record { merchant = w.1.0; sealed = w.1.1 }, w.2 ∙ endorsed_spelled_so w.0)

pub endorsed_reads_back : EndorsedReadsBack
endorsed_reads_back o is =
    let p : EndorsedParts = (o.merchant.0, o.sealed) in
    endorsed_read_so (endorsed_bytes o)
    ∙ whole_reads endorsed_row is_endorsed_row EndorsedOrder (endorsed_bytes o) (λ q. Ok (endorsed_made q)) p (is.merchant, is.sealed) (sym (endorsed_spelled_so p))

pub endorsed_is_as_long : EndorsedIsAsLong
endorsed_is_as_long o is =
    let p : EndorsedParts = (o.merchant.0, o.sealed) in
    omega (arith, is_endorsed_row.long 0 p (is.merchant, is.sealed), ap length (endorsed_spelled_so p))

pub one_endorsed : OneEndorsed
one_endorsed a b first second same = ok_is a b (sym (endorsed_reads_back a first) ∙ ap endorsed_of same ∙ endorsed_reads_back b second)

-- ---- a status query

abbrev QueryParts : Type 0
QueryParts = ((ℕ × Epoid) × ℕ) × List ℕ

abbrev query_row : Row QueryParts
query_row = number4 & epoid & number8 & raw 32

is_query_row : IsRow query_row
is_query_row = and_row (and_row (and_row number4_row epoid_row) number8_row) (raw_row 32)

abbrev query_made : QueryParts → StatusQuery
query_made p = record { asker = record { 0 = p.0.0.0 }; epoid = p.0.0.1; least = p.0.1; tag = p.1 }

query_read_so : (bytes : List ℕ) → query_of bytes ≡ whole query_row StatusQuery bytes (λ p. Ok (query_made p))
unfolding query_of
query_read_so bytes = refl

query_spelled_so : (p : QueryParts) → query_row.spelled p ≡ query_bytes (query_made p)
unfolding query_bytes
query_spelled_so p = refl

pub query_spells_back : QuerySpellsBack
query_spells_back bytes q are e =
    let w = whole_found query_row is_query_row StatusQuery bytes (λ p. Ok (query_made p)) q are (sym (query_read_so bytes) ∙ e) in
    subst (λ (x : StatusQuery). IsQuery x × (bytes ≡ query_bytes x)) (ok_is (query_made w.0) q w.3)
    (record { asker = w.1.0.0.0; epoid = w.1.0.0.1; least = w.1.0.1; tag = w.1.1 }, w.2 ∙ query_spelled_so w.0)

pub query_reads_back : QueryReadsBack
query_reads_back q is =
    let p : QueryParts = (((q.asker.0, q.epoid), q.least), q.tag) in
    query_read_so (query_bytes q)
    ∙ whole_reads query_row is_query_row StatusQuery (query_bytes q) (λ q. Ok (query_made q)) p (((is.asker, is.epoid), is.least), is.tag) (sym (query_spelled_so p))

pub query_is_as_long : QueryIsAsLong
query_is_as_long q is =
    let p : QueryParts = (((q.asker.0, q.epoid), q.least), q.tag) in
    omega (arith, is_query_row.long 0 p (((is.asker, is.epoid), is.least), is.tag), ap length (query_spelled_so p))

pub one_query : OneQuery
one_query a b first second same = ok_is a b (sym (query_reads_back a first) ∙ ap query_of same ∙ query_reads_back b second)

-- ---- an enrolment

abbrev EnrolmentParts : Type 0
EnrolmentParts = ((((ℕ × ℕ) × ℕ) × ℕ) × List ℕ) × List ℕ

abbrev enrolment_row : Row EnrolmentParts
enrolment_row = number4 & tested byte is_role & number4 & number8 & raw 32 & raw 32

is_enrolment_row : IsRow enrolment_row
is_enrolment_row = and_row (and_row (and_row (and_row (and_row number4_row (tested_row byte is_role byte_row)) number4_row) number8_row) (raw_row 32)) (raw_row 32)

abbrev enrolment_made : EnrolmentParts → Enrolment
enrolment_made p = record { id = record { 0 = p.0.0.0.0.0 }; role = p.0.0.0.0.1; acct = record { 0 = p.0.0.0.1 }; nonce = p.0.0.1; key = p.0.1; tag = p.1 }

enrolment_read_so : (bytes : List ℕ) → enrolment_of bytes ≡ whole enrolment_row Enrolment bytes (λ p. Ok (enrolment_made p))
unfolding enrolment_of
enrolment_read_so bytes = refl

enrolment_spelled_so : (p : EnrolmentParts) → enrolment_row.spelled p ≡ enrolment_bytes (enrolment_made p)
unfolding enrolment_bytes
enrolment_spelled_so p = refl

pub enrolment_spells_back : EnrolmentSpellsBack
enrolment_spells_back bytes n are e =
    let w = whole_found enrolment_row is_enrolment_row Enrolment bytes (λ p. Ok (enrolment_made p)) n are (sym (enrolment_read_so bytes) ∙ e) in
    subst (λ (x : Enrolment). IsEnrolment x × (bytes ≡ enrolment_bytes x)) (ok_is (enrolment_made w.0) n w.3)
    (record { id = w.1.0.0.0.0.0; role = role_is w.0.0.0.0.0.1 w.1.0.0.0.0.1.1; acct = w.1.0.0.0.1; nonce = w.1.0.0.1; key = w.1.0.1; tag = w.1.1 }, w.2 ∙ enrolment_spelled_so w.0)

pub enrolment_reads_back : EnrolmentReadsBack
enrolment_reads_back n is =
    let p : EnrolmentParts = (((((n.id.0, n.role), n.acct.0), n.nonce), n.key), n.tag) in
    enrolment_read_so (enrolment_bytes n)
    ∙ whole_reads enrolment_row is_enrolment_row Enrolment (enrolment_bytes n) (λ q. Ok (enrolment_made q)) p (((((is.id, (role_fits n.role is.role, role_tested n.role is.role)), is.acct), is.nonce), is.key), is.tag) (sym (enrolment_spelled_so p))

pub enrolment_is_as_long : EnrolmentIsAsLong
enrolment_is_as_long n is =
    let p : EnrolmentParts = (((((n.id.0, n.role), n.acct.0), n.nonce), n.key), n.tag) in
    omega (arith, is_enrolment_row.long 0 p (((((is.id, (role_fits n.role is.role, role_tested n.role is.role)), is.acct), is.nonce), is.key), is.tag), ap length (enrolment_spelled_so p))

pub one_enrolment : OneEnrolment
one_enrolment a b first second same = ok_is a b (sym (enrolment_reads_back a first) ∙ ap enrolment_of same ∙ enrolment_reads_back b second)

-- ---- a funding

abbrev FundingParts : Type 0
FundingParts = ((ℕ × ℕ) × List ℕ) × List ℕ

abbrev funding_row : Row FundingParts
funding_row = number4 & tested number8 is_amount & raw 16 & raw 32

is_funding_row : IsRow funding_row
is_funding_row = and_row (and_row (and_row number4_row (tested_row number8 is_amount number8_row)) (raw_row 16)) (raw_row 32)

abbrev funding_made : FundingParts → Funding
funding_made p = record { acct = record { 0 = p.0.0.0 }; amount = p.0.0.1; reference = p.0.1; tag = p.1 }

funding_read_so : (bytes : List ℕ) → funding_of bytes ≡ whole funding_row Funding bytes (λ p. Ok (funding_made p))
unfolding funding_of
funding_read_so bytes = refl

funding_spelled_so : (p : FundingParts) → funding_row.spelled p ≡ funding_bytes (funding_made p)
unfolding funding_bytes
funding_spelled_so p = refl

pub funding_spells_back : FundingSpellsBack
funding_spells_back bytes f are e =
    let w = whole_found funding_row is_funding_row Funding bytes (λ p. Ok (funding_made p)) f are (sym (funding_read_so bytes) ∙ e) in
    subst (λ (x : Funding). IsFunding x × (bytes ≡ funding_bytes x)) (ok_is (funding_made w.0) f w.3)
    (record { acct = w.1.0.0.0; amount = amount_is w.0.0.0.1 w.1.0.0.1.1; reference = w.1.0.1; tag = w.1.1 }, w.2 ∙ funding_spelled_so w.0)

pub funding_reads_back : FundingReadsBack
funding_reads_back f is =
    let p : FundingParts = (((f.acct.0, f.amount), f.reference), f.tag) in
    funding_read_so (funding_bytes f)
    ∙ whole_reads funding_row is_funding_row Funding (funding_bytes f) (λ q. Ok (funding_made q)) p (((is.acct, (omega (arith, is.amount.1), amount_tested f.amount is.amount)), is.reference), is.tag) (sym (funding_spelled_so p))

pub funding_is_as_long : FundingIsAsLong
funding_is_as_long f is =
    let p : FundingParts = (((f.acct.0, f.amount), f.reference), f.tag) in
    omega (arith, is_funding_row.long 0 p (((is.acct, (omega (arith, is.amount.1), amount_tested f.amount is.amount)), is.reference), is.tag), ap length (funding_spelled_so p))

pub one_funding : OneFunding
one_funding a b first second same = ok_is a b (sym (funding_reads_back a first) ∙ ap funding_of same ∙ funding_reads_back b second)

-- ---- a request for a price

abbrev PriceRequestParts : Type 0
PriceRequestParts = (ℕ × ℕ) × List ℕ

abbrev price_request_row : Row PriceRequestParts
price_request_row = number8 & number4 & text MAX_REQUEST

is_price_request_row : IsRow price_request_row
is_price_request_row = and_row (and_row number8_row number4_row) (text_row MAX_REQUEST (omega arith))

abbrev price_request_made : PriceRequestParts → PriceRequest
price_request_made p = record { transaction = p.0.0; product = p.0.1; request = p.1 }

price_request_read_so : (bytes : List ℕ) → price_request_of bytes ≡ whole price_request_row PriceRequest bytes (λ p. Ok (price_request_made p))
unfolding price_request_of
price_request_read_so bytes = refl

price_request_spelled_so : (p : PriceRequestParts) → price_request_row.spelled p ≡ price_request_bytes (price_request_made p)
unfolding price_request_bytes
price_request_spelled_so p = refl

pub price_request_spells_back : PriceRequestSpellsBack
price_request_spells_back bytes r are e =
    let w = whole_found price_request_row is_price_request_row PriceRequest bytes (λ p. Ok (price_request_made p)) r are (sym (price_request_read_so bytes) ∙ e) in
    subst (λ (x : PriceRequest). IsPriceRequest x × (bytes ≡ price_request_bytes x)) (ok_is (price_request_made w.0) r w.3)
    (record { transaction = w.1.0.0; product = w.1.0.1; request = w.1.1 }, w.2 ∙ price_request_spelled_so w.0)

pub price_request_reads_back : PriceRequestReadsBack
price_request_reads_back r is =
    let p : PriceRequestParts = ((r.transaction, r.product), r.request) in
    price_request_read_so (price_request_bytes r)
    ∙ whole_reads price_request_row is_price_request_row PriceRequest (price_request_bytes r) (λ q. Ok (price_request_made q)) p ((is.transaction, is.product), is.request) (sym (price_request_spelled_so p))

pub price_request_is_as_long : PriceRequestIsAsLong
price_request_is_as_long r is =
    let p : PriceRequestParts = ((r.transaction, r.product), r.request) in
    omega (arith, is_price_request_row.long 0 p ((is.transaction, is.product), is.request), ap length (price_request_spelled_so p))

pub one_price_request : OnePriceRequest
one_price_request a b first second same = ok_is a b (sym (price_request_reads_back a first) ∙ ap price_request_of same ∙ price_request_reads_back b second)

-- ---- a quote

abbrev QuoteParts : Type 0
QuoteParts = (ℕ × ℕ) × ℕ

abbrev quote_row : Row QuoteParts
quote_row = number8 & number4 & number8

is_quote_row : IsRow quote_row
is_quote_row = and_row (and_row number8_row number4_row) number8_row

abbrev quote_made : QuoteParts → Quote
quote_made p = record { transaction = p.0.0; product = p.0.1; price = record { 0 = p.1 } }

quote_read_so : (bytes : List ℕ) → quote_of bytes ≡ whole quote_row Quote bytes (λ p. Ok (quote_made p))
unfolding quote_of
quote_read_so bytes = refl

quote_spelled_so : (p : QuoteParts) → quote_row.spelled p ≡ quote_bytes (quote_made p)
unfolding quote_bytes
quote_spelled_so p = refl

pub quote_spells_back : QuoteSpellsBack
quote_spells_back bytes q are e =
    let w = whole_found quote_row is_quote_row Quote bytes (λ p. Ok (quote_made p)) q are (sym (quote_read_so bytes) ∙ e) in
    subst (λ (x : Quote). IsQuote x × (bytes ≡ quote_bytes x)) (ok_is (quote_made w.0) q w.3)
    (record { transaction = w.1.0.0; product = w.1.0.1; price = w.1.1 }, w.2 ∙ quote_spelled_so w.0)

pub quote_reads_back : QuoteReadsBack
quote_reads_back q is =
    let p : QuoteParts = ((q.transaction, q.product), q.price.0) in
    quote_read_so (quote_bytes q)
    ∙ whole_reads quote_row is_quote_row Quote (quote_bytes q) (λ q. Ok (quote_made q)) p ((is.transaction, is.product), is.price) (sym (quote_spelled_so p))

pub quote_is_as_long : QuoteIsAsLong
quote_is_as_long q is =
    let p : QuoteParts = ((q.transaction, q.product), q.price.0) in
    omega (arith, is_quote_row.long 0 p ((is.transaction, is.product), is.price), ap length (quote_spelled_so p))

pub one_quote : OneQuote
one_quote a b first second same = ok_is a b (sym (quote_reads_back a first) ∙ ap quote_of same ∙ quote_reads_back b second)

-- ---- a request for goods

abbrev GoodsRequestParts : Type 0
GoodsRequestParts = ℕ × ℕ

abbrev goods_request_row : Row GoodsRequestParts
goods_request_row = number8 & number8

is_goods_request_row : IsRow goods_request_row
is_goods_request_row = and_row number8_row number8_row

abbrev goods_request_made : GoodsRequestParts → GoodsRequest
goods_request_made p = record { transaction = p.0; place = p.1 }

goods_request_read_so : (bytes : List ℕ) → goods_request_of bytes ≡ whole goods_request_row GoodsRequest bytes (λ p. Ok (goods_request_made p))
unfolding goods_request_of
goods_request_read_so bytes = refl

goods_request_spelled_so : (p : GoodsRequestParts) → goods_request_row.spelled p ≡ goods_request_bytes (goods_request_made p)
unfolding goods_request_bytes
goods_request_spelled_so p = refl

pub goods_request_spells_back : GoodsRequestSpellsBack
goods_request_spells_back bytes r are e =
    let w = whole_found goods_request_row is_goods_request_row GoodsRequest bytes (λ p. Ok (goods_request_made p)) r are (sym (goods_request_read_so bytes) ∙ e) in
    subst (λ (x : GoodsRequest). IsGoodsRequest x × (bytes ≡ goods_request_bytes x)) (ok_is (goods_request_made w.0) r w.3)
    (record { transaction = w.1.0; place = w.1.1 }, w.2 ∙ goods_request_spelled_so w.0)

pub goods_request_reads_back : GoodsRequestReadsBack
goods_request_reads_back r is =
    let p : GoodsRequestParts = (r.transaction, r.place) in
    goods_request_read_so (goods_request_bytes r)
    ∙ whole_reads goods_request_row is_goods_request_row GoodsRequest (goods_request_bytes r) (λ q. Ok (goods_request_made q)) p (is.transaction, is.place) (sym (goods_request_spelled_so p))

pub goods_request_is_as_long : GoodsRequestIsAsLong
goods_request_is_as_long r is =
    let p : GoodsRequestParts = (r.transaction, r.place) in
    omega (arith, is_goods_request_row.long 0 p (is.transaction, is.place), ap length (goods_request_spelled_so p))

pub one_goods_request : OneGoodsRequest
one_goods_request a b first second same = ok_is a b (sym (goods_request_reads_back a first) ∙ ap goods_request_of same ∙ goods_request_reads_back b second)

-- ---- a head of goods

abbrev GoodsHeadParts : Type 0
GoodsHeadParts = (((ℕ × Epoid) × ℕ) × ℕ) × List ℕ

abbrev goods_head_row : Row GoodsHeadParts
goods_head_row = number8 & epoid & number8 & number8 & raw 32

is_goods_head_row : IsRow goods_head_row
is_goods_head_row = and_row (and_row (and_row (and_row number8_row epoid_row) number8_row) number8_row) (raw_row 32)

abbrev goods_head_made : GoodsHeadParts → GoodsHead
goods_head_made p = record { transaction = p.0.0.0.0; epoid = p.0.0.0.1; total = p.0.0.1; place = p.0.1; checksum = p.1 }

goods_head_read_so : (bytes : List ℕ) → goods_head_of bytes ≡ whole goods_head_row GoodsHead bytes (λ p. Ok (goods_head_made p))
unfolding goods_head_of
goods_head_read_so bytes = refl

goods_head_spelled_so : (p : GoodsHeadParts) → goods_head_row.spelled p ≡ goods_head_bytes (goods_head_made p)
unfolding goods_head_bytes
goods_head_spelled_so p = refl

pub goods_head_spells_back : GoodsHeadSpellsBack
goods_head_spells_back bytes h are e =
    let w = whole_found goods_head_row is_goods_head_row GoodsHead bytes (λ p. Ok (goods_head_made p)) h are (sym (goods_head_read_so bytes) ∙ e) in
    subst (λ (x : GoodsHead). IsGoodsHead x × (bytes ≡ goods_head_bytes x)) (ok_is (goods_head_made w.0) h w.3)
    (record { transaction = w.1.0.0.0.0; epoid = w.1.0.0.0.1; total = w.1.0.0.1; place = w.1.0.1; checksum = w.1.1 }, w.2 ∙ goods_head_spelled_so w.0)

pub goods_head_reads_back : GoodsHeadReadsBack
goods_head_reads_back h is =
    let p : GoodsHeadParts = ((((h.transaction, h.epoid), h.total), h.place), h.checksum) in
    goods_head_read_so (goods_head_bytes h)
    ∙ whole_reads goods_head_row is_goods_head_row GoodsHead (goods_head_bytes h) (λ q. Ok (goods_head_made q)) p ((((is.transaction, is.epoid), is.total), is.place), is.checksum) (sym (goods_head_spelled_so p))

pub goods_head_is_as_long : GoodsHeadIsAsLong
goods_head_is_as_long h is =
    let p : GoodsHeadParts = ((((h.transaction, h.epoid), h.total), h.place), h.checksum) in
    omega (arith, is_goods_head_row.long 0 p ((((is.transaction, is.epoid), is.total), is.place), is.checksum), ap length (goods_head_spelled_so p))

pub one_goods_head : OneGoodsHead
one_goods_head a b first second same = ok_is a b (sym (goods_head_reads_back a first) ∙ ap goods_head_of same ∙ goods_head_reads_back b second)

-- ---- an order for its merchant

abbrev PaymentRequestParts : Type 0
PaymentRequestParts = ℕ × List ℕ

abbrev payment_request_row : Row PaymentRequestParts
payment_request_row = number8 & text MAX_ORDER

is_payment_request_row : IsRow payment_request_row
is_payment_request_row = and_row number8_row (text_row MAX_ORDER (omega arith))

abbrev payment_request_made : PaymentRequestParts → PaymentRequest
payment_request_made p = record { transaction = p.0; order = p.1 }

payment_request_read_so : (bytes : List ℕ) → payment_request_of bytes ≡ whole payment_request_row PaymentRequest bytes (λ p. Ok (payment_request_made p))
unfolding payment_request_of
payment_request_read_so bytes = refl

payment_request_spelled_so : (p : PaymentRequestParts) → payment_request_row.spelled p ≡ payment_request_bytes (payment_request_made p)
unfolding payment_request_bytes
payment_request_spelled_so p = refl

pub payment_request_spells_back : PaymentRequestSpellsBack
payment_request_spells_back bytes r are e =
    let w = whole_found payment_request_row is_payment_request_row PaymentRequest bytes (λ p. Ok (payment_request_made p)) r are (sym (payment_request_read_so bytes) ∙ e) in
    subst (λ (x : PaymentRequest). IsPaymentRequest x × (bytes ≡ payment_request_bytes x)) (ok_is (payment_request_made w.0) r w.3)
    (record { transaction = w.1.0; order = w.1.1 }, w.2 ∙ payment_request_spelled_so w.0)

pub payment_request_reads_back : PaymentRequestReadsBack
payment_request_reads_back r is =
    let p : PaymentRequestParts = (r.transaction, r.order) in
    payment_request_read_so (payment_request_bytes r)
    ∙ whole_reads payment_request_row is_payment_request_row PaymentRequest (payment_request_bytes r) (λ q. Ok (payment_request_made q)) p (is.transaction, is.order) (sym (payment_request_spelled_so p))

pub payment_request_is_as_long : PaymentRequestIsAsLong
payment_request_is_as_long r is =
    let p : PaymentRequestParts = (r.transaction, r.order) in
    omega (arith, is_payment_request_row.long 0 p (is.transaction, is.order), ap length (payment_request_spelled_so p))

pub one_payment_request : OnePaymentRequest
one_payment_request a b first second same = ok_is a b (sym (payment_request_reads_back a first) ∙ ap payment_request_of same ∙ payment_request_reads_back b second)
