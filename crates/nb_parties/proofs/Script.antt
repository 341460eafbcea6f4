-- What each party does in a purchase in numbers: a row for each message, from its tests. What is sealed stays a seal.
use Rattle.std.proofs.Common.{take, ◌≡◌, inl, ℕ, ◌+◌, ◌≤◌, Bool, true, false, List, [], ◌∷◌, length, None, Some, Result, Ok, refl, sym, ap, ◌∙◌, arith, ◌++◌}
use Rattle.std.proofs.lemmas.List.{take_all}
use Rattle.std.proofs.lemmas.Slice.Eq.{bytes_eq-Decides}
use Rattle.std.specs.Prelude.{◌==◌, ◌-◌, codes, replicate, min, nat_lt, if◌then◌else◌}
use Rattle.std.specs.Str.{bytes_eq}
use Rattle.sha2.specs.Sha256.{sha256}
use Rattle.sha2.proofs.Facts256.{length-sha256}
use Rattle.nb_units.specs.Epoid.{epoid_bytes, IsEpoid}
use Rattle.nb_units.specs.Fields.{◌>>=◌}
use Rattle.nb_units.specs.declared.epoid.Epoid.{Epoid}
use Rattle.nb_units.specs.declared.frames.TheConstants.{ORDER_REQUEST, STATUS_REQUEST, TICKET_REQUEST}
use Rattle.nb_units.specs.declared.ids.Price.{Price}
use Rattle.nb_units.specs.declared.limits.TheConstants.{MAX_HIDDEN, MAX_ORDER}
use Rattle.nb_seal.specs.Hmac.{hmac_of}
use Rattle.nb_seal.specs.Seal.{seal_of}
use Rattle.nb_seal.proofs.Opening.{length-seal_of, length-hmac_of}
use Rattle.nb_body.specs.Reading.{price_request_of, quote_of, goods_request_of, goods_head_of, payment_request_of}
use Rattle.nb_body.specs.Spelling.{price_request_bytes, quote_bytes, goods_request_bytes, goods_head_bytes, payment_request_bytes, endorsed_bytes, IsGoodsHead, IsQuery, query_bytes}
use Rattle.nb_body.specs.declared.endorsed.EndorsedOrder.{EndorsedOrder}
use Rattle.nb_body.specs.declared.goods_head.GoodsHead.{GoodsHead}
use Rattle.nb_body.specs.declared.goods_request.GoodsRequest.{GoodsRequest}
use Rattle.nb_body.specs.declared.payment_request.PaymentRequest.{PaymentRequest}
use Rattle.nb_body.specs.declared.price_request.PriceRequest.{PriceRequest}
use Rattle.nb_body.specs.declared.limits.TheConstants.{MAX_ENDORSED}
use Rattle.nb_body.specs.declared.query.StatusQuery.{StatusQuery}
use Rattle.nb_body.specs.declared.quote.Quote.{Quote}
use Rattle.nb_body.proofs.Layouts.{price_request_reads_back, quote_reads_back, goods_request_reads_back, goods_head_reads_back, payment_request_reads_back, endorsed_reads_back, query_reads_back, query_is_as_long}
use Rattle.nb_entry.specs.declared.entry.Entry.{Entry}
use Rattle.nb_entry.specs.declared.entry.Entry.TheVariants as entries
use Rattle.nb_entry.specs.declared.entry.TheConstants.{CONSUMER, MERCHANT}
use Rattle.nb_book.specs.declared.party.Party.{Party}
use Rattle.nb_epo.specs.Reading.{hidden_of}
use Rattle.nb_epo.specs.Spelling.{untagged_bytes, order_bytes, hidden_bytes, IsOrder, IsHidden}
use Rattle.nb_epo.specs.Tags.{order_tag}
use Rattle.nb_epo.specs.declared.hidden.Hidden.{Hidden}
use Rattle.nb_epo.specs.declared.order.Order.{Order}
use Rattle.nb_epo.proofs.Layouts.{order_reads_back, hidden_reads_back, lengths}
use Rattle.nb_endorse.specs.Reading.{endorsement_of, signed_of}
use Rattle.nb_endorse.specs.Spelling.{endorsement_bytes, IsEndorsement, signed_bytes, IsReceipt}
use Rattle.nb_endorse.specs.Tags.{endorsement_digest, signed_receipt}
use Rattle.nb_endorse.specs.declared.endorsement.Endorsement.{Endorsement}
use Rattle.nb_endorse.specs.declared.receipt.Receipt.{Receipt}
use Rattle.nb_endorse.specs.declared.receipt.Signed.{Signed}
use Rattle.nb_endorse.specs.declared.receipt.TheConstants.{PAID_CODE, NO_KEY}
use Rattle.nb_endorse.specs.declared.refusal.TheConstants.{IN_BODY, IN_ENDORSEMENT, IN_ORDER, IN_HIDDEN}
use Rattle.nb_endorse.specs.declared.reply.Reply.TheVariants.{Result as Receipts, Status}
use Rattle.nb_endorse.proofs.Layouts.{endorsement_reads_back}
use Rattle.nb_endorse.proofs.Receipts.{receipt_reads_back}
use Rattle.nb_ticket.specs.Keys.{ask_tag, session_key_of}
use Rattle.nb_ticket.specs.Reading.{ticket_of, granted_of}
use Rattle.nb_ticket.specs.Sealed.{sealed_ticket, sealed_grant, grant_with_ticket}
use Rattle.nb_ticket.specs.Spelling.{ask_bytes, ticket_bytes, granted_bytes, IsTicket, IsGranted}
use Rattle.nb_ticket.specs.declared.ask.TicketAsk.{TicketAsk}
use Rattle.nb_ticket.specs.declared.granted.Granted.{Granted}
use Rattle.nb_ticket.specs.declared.ticket.Ticket.{Ticket}
use Rattle.nb_ticket.specs.declared.ticket.TheConstants.{TICKET_BYTES}
use Rattle.nb_ticket.proofs.Layouts.{ask_reads_back, ticket_reads_back, granted_reads_back}
use Rattle.nb_goods.specs.Goods.{sealed_goods, part_at}
use Rattle.nb_goods.specs.declared.limits.TheConstants.{PART_BYTES}
use Rattle.nb_msgs.specs.ReplyBytes.{sealed_receipt}
use Rattle.nb_msgs.specs.StatusText.{text_bytes, text_of}
use Rattle.nb_msgs.specs.declared.status.StatusText.{StatusText}
use Rattle.nb_msgs.proofs.StatusTexts.{status_reads_back}
use Rattle.nb_msgs.specs.Tests.{or_seal, opened, field}
use Rattle.nb_msgs.specs.declared.message.Message.TheVariants as message
use Rattle.nb_msgs.specs.declared.node.Reason.{Reason}
use Rattle.nb_msgs.specs.declared.node.To.TheVariants as to
use Rattle.nb_msgs.proofs.Unsealing.{opened_so}
use Rattle.nb_wallet.specs.Orders.{order_for}
use Rattle.nb_asking.specs.Messages.{ticket_request, price_request, goods_request, payment, untagged_query, status_query}
use Rattle.nb_wallet.specs.Stages.{end_of}
use Rattle.nb_wallet.specs.declared.item.Item.TheVariants as keeps
use Rattle.nb_wallet.specs.declared.item.SessionTicket.{SessionTicket}
use Rattle.nb_wallet.specs.Purchases.{Purchase}
use Rattle.nb_wallet.specs.declared.purchase.Stage.{Stage}
use Rattle.nb_wallet.specs.declared.purchase.Stage.TheVariants as stage
use Rattle.nb_stall.specs.Messages.{quote_message, endorsement_for, endorsed_message}
use Rattle.nb_stall.specs.Tests.{ticket_in, request_digest}
use Rattle.nb_stall.specs.declared.item.Item.{Item}
use Rattle.nb_stall.specs.declared.item.Item.TheVariants as item
use Rattle.nb_stall.specs.declared.purchase.Purchase.{Purchase as Sold}
use Rattle.nb_stall.specs.declared.sale.Progress.TheVariants as progress
use Rattle.nb_escrow.specs.Checks.{well_formed, signed_part}
use Rattle.nb_escrow.specs.Orders.{endorsement_in, hidden_in, again_or_settle, result, settled, order_steps}
use Rattle.nb_escrow.specs.Payments.{payment_steps, outcome_of}
use Rattle.nb_escrow.specs.Settlements.{settlement_in, settlement_entry, receipt_in_role}
use Rattle.nb_escrow.specs.Tickets.{ticket_granted, ticket_steps}
use Rattle.nb_escrow.specs.Verdict.{told, verdict}
use Rattle.nb_escrow.specs.declared.decision.Decision.{Decision}
use Rattle.nb_escrow.specs.declared.order.Presented.{Presented}
use Rattle.nb_escrow.specs.declared.settlement.PaymentOutcome.{PaymentOutcome}
use Rattle.nb_escrow.specs.declared.settlement.RefusalReason.{RefusalReason}
use Rattle.nb_escrow.specs.declared.settlement.Settlement.{Settlement}
use Rattle.nb_escrow.proofs.Keys.{passes}
use Rattle.nb_escrow.proofs.Tests.{step, in_role, sealed_so, same_merchants, tag_so, room_for}
use Rattle.nb_consumer.specs.State.{Buyer, new_buyer}
use Rattle.nb_consumer.specs.Table as buys
use Rattle.nb_consumer.specs.declared.deed.Deed.{Deed}
use Rattle.nb_consumer.specs.declared.deed.Deed.TheVariants as deed
use Rattle.nb_merchant.specs.declared.answer.Answer.{Answer}
use Rattle.nb_merchant.specs.Shop.{Shop}
use Rattle.nb_merchant.specs.Table as sells
use Rattle.nb_parties.specs.Rules.{shop_row}
use Rattle.nb_parties.proofs.Paying.{sealed_short}
use Rattle.nb_parties.specs.Worked.{buyer_id, seller_id, first_wallet, first_stall, first_head, first_product, first_entries, first_start, first_key}

-- what a seal opens to, where its text is read
pub opens : {A E : Type 0} (reading : List ℕ → Result A E) (key label plain : List ℕ) (x : A) → reading plain ≡ Ok x → opened reading key label (seal_of key label plain) ≡ Ok x
opens reading key label plain x is = sym (opened_so reading key label (seal_of key label plain) plain (Ok x) refl is)

same_bytes : (bytes : List ℕ) → bytes_eq bytes bytes ≡ true
same_bytes bytes = (bytes_eq-Decides bytes bytes).1 refl

-- ---- what is said

abbrev pub ask : TicketAsk
ask = record { consumer = buyer_id; merchant = seller_id; nonce = 1; tag = ask_tag (replicate 32 0x44) buyer_id seller_id 1 }

abbrev pub session : List ℕ
session = session_key_of (replicate 32 0x11) buyer_id seller_id 1 1000

abbrev pub ticket : Ticket
ticket = record { consumer = buyer_id; merchant = seller_id; until = 4600; session = session }

abbrev pub grant : Granted
grant = grant_with_ticket (replicate 32 0x55) ticket 1

abbrev pub pass : SessionTicket
pass = record { session = session; ticket = sealed_ticket (replicate 32 0x55) ticket }

abbrev pub asked_price : PriceRequest
asked_price = record { transaction = 1; product = 7; request = [] }

abbrev pub price : Price
price = record { 0 = 300 }

abbrev pub quote : Quote
quote = record { transaction = 1; product = 7; price = price }

abbrev pub asked_goods : GoodsRequest
asked_goods = record { transaction = 1; place = 0 }

abbrev pub sealed : List ℕ
sealed = sealed_goods first_key []

abbrev pub epoid : Epoid
epoid = record { merchant = seller_id; moment = 1000; serial = 1 }

abbrev pub head : GoodsHead
head = record { transaction = 1; epoid = epoid; total = 32; place = 0; checksum = sha256 sealed }

abbrev pub order : Order
order = order_for first_wallet first_start price epoid (sha256 sealed)

abbrev pub asked_payment : PaymentRequest
asked_payment = record { transaction = 1; order = order_bytes order }

abbrev pub endorsement : Endorsement
endorsement = endorsement_for first_stall epoid (order_bytes order)

abbrev pub request : EndorsedOrder
request = record { merchant = seller_id; sealed = seal_of (replicate 32 0x55) (codes "endo") (endorsement_bytes endorsement) }

abbrev pub receipt : Receipt
receipt = record {
  code = PAID_CODE;
  consumer = buyer_id;
  merchant = seller_id;
  product = 7;
  price = price;
  epoid = epoid;
  at = 3;
  moment = 1000;
  key = Some first_key;
  shown = None;
}

abbrev pub signed : Signed
signed = signed_receipt (replicate 32 0x11) receipt

-- ---- lengths

pub session_long : length session ≡ 32
session_long = length-hmac_of (replicate 32 0x11) _

pub sealed_long : length sealed ≡ 32
sealed_long = omega (arith, length-seal_of first_key (codes "good") [])

pub is_ticket : IsTicket ticket
is_ticket = record { consumer = omega arith; merchant = omega arith; until = omega arith; session = session_long }

pub is_epoid : IsEpoid epoid
is_epoid = (omega arith, omega arith, omega arith)

abbrev pub hidden : Hidden
hidden = record { acct = record { 0 = 1 }; nonce = 7; memo = [] }

is_hidden : IsHidden hidden
is_hidden = record { acct = omega arith; nonce = omega arith; memo = omega arith }

hidden_long : length order.hidden ≡ 48
hidden_long = omega (arith, length-seal_of (replicate 32 0x44) (codes "hide") (hidden_bytes hidden), lengths.1 hidden is_hidden)

hidden_short : length order.hidden ≤ MAX_HIDDEN
hidden_short = omega (arith, hidden_long)

is_order : IsOrder order
is_order = record {
  consumer = omega arith;
  merchant = omega arith;
  product = omega arith;
  price = omega arith;
  epoid = is_epoid;
  checksum = length-sha256 sealed;
  request = length-sha256 _;
  account = length-sha256 _;
  hidden = hidden_short;
  tag = length-hmac_of (replicate 32 0x44) _;
}

pub order_long : length (order_bytes order) ≡ 216
order_long = omega (arith, lengths.0 order is_order, hidden_long)

pub order_short : length (order_bytes order) ≤ MAX_ORDER
order_short = omega (arith, order_long)

pub is_endorsement : IsEndorsement endorsement
is_endorsement = record { order = order_short; macct = omega arith; memo = omega arith; key = length-hmac_of (replicate 32 0x66) _ }

pub is_receipt : IsReceipt receipt
is_receipt = record {
  code = inl refl;
  consumer = omega arith;
  merchant = omega arith;
  product = omega arith;
  price = omega arith;
  epoid = is_epoid;
  at = omega arith;
  moment = omega arith;
  keyed = ((λ some. refl), (λ paid. refl));
  key = length-hmac_of (replicate 32 0x66) _;
  showing = λ paid. refl;
  shown = tt;
}

-- ---- the consumer, as it goes on

abbrev pub buyer : Stage → List ℕ → List (List ℕ × ℕ) → Buyer
buyer s held orders = record { wallet = first_wallet; purchases = record { start = first_start; stage = s; held = held } ∷ []; orders = orders }

abbrev pub ticketing : Buyer
ticketing = buyer stage.Ticketing [] []

abbrev pub asking : Buyer
asking = buyer (stage.Asked pass) [] []

abbrev pub wanting : Buyer
wanting = buyer (stage.Wanted pass price None) [] []

abbrev pub ordering : Buyer
ordering = buyer (stage.Ordered pass order 0) sealed ((epoid_bytes epoid, 1) ∷ [])

-- ---- the merchant, as it goes on

abbrev pub sold : Sold
sold = record { consumer = buyer_id; transaction = 1 }

abbrev pub shop : List Item → Shop
shop items = record { stall = first_stall; products = first_product ∷ []; offers = None; items = items }

abbrev pub quoted : Item
quoted = item.Quoted sold 7 price (request_digest asked_price)

abbrev pub delivered : Item
delivered = item.Delivered sold epoid (sha256 sealed)

abbrev pub endorsed : Item
endorsed = item.Endorsed sold (order_bytes order)

abbrev pub part : List ℕ
part = sealed_receipt (replicate 32 0x11) (replicate 32 0x44) receipt

abbrev pub settled_item : Item
settled_item = item.Settled sold part

-- ---- rows of the consumer

pub starts : buys.started (new_buyer first_wallet) first_start ≡ Ok (deed.Keeps (keeps.Started first_start) to.Server (ticket_request first_wallet first_start))
unfolding buys.started
starts = refl

ticket_text_long : length (ticket_bytes ticket) ≡ 48
unfolding ticket_bytes
ticket_text_long = omega (arith, session_long)

pub ticket_short : length grant.ticket ≤ TICKET_BYTES
ticket_short = omega (arith, length-seal_of (replicate 32 0x55) (codes "tick") (ticket_bytes ticket), ticket_text_long)

is_granted : IsGranted grant
is_granted = record { merchant = omega arith; nonce = omega arith; until = omega arith; session = session_long; ticket = ticket_short }

pub hears_grant : buys.heard ticketing (message.Grant (sealed_grant (replicate 32 0x44) grant))
    ≡ Ok (deed.Keeps (keeps.Granted 1 pass) (to.Merchant seller_id) (price_request pass first_start))
unfolding buys.granted
hears_grant = step _ _ grant (opens granted_of (replicate 32 0x44) (codes "gran") (granted_bytes grant) grant (granted_reads_back grant is_granted))

pub hears_quote : buys.heard asking (message.Quote 1 (seal_of session (codes "m002") (quote_bytes quote)))
    ≡ Ok (deed.Keeps (keeps.Wanted 1 price) (to.Merchant seller_id) (goods_request pass first_start 0))
unfolding buys.quoted buys.price_quoted
hears_quote = step _ _ price (step _ _ quote (opens quote_of session (codes "m002") (quote_bytes quote) quote (quote_reads_back quote (record { transaction = omega arith; product = omega arith; price = omega arith }))))

whole_part : (n m : ℕ) → n ≡ 32 → (n == min PART_BYTES (32 - 0)) ≡ true
whole_part n m is = rw is refl

fits : buys.part_fits seller_id None [] head sealed ≡ Ok tt
unfolding buys.part_fits
fits = ap (λ (b : Bool). field 3 b >>= λ place. field 4 true) (whole_part (length sealed) 0 sealed_long)

abbrev the_purchase : Purchase
the_purchase = record { start = first_start; stage = stage.Wanted pass price None; held = [] }

pub is_head : IsGoodsHead head
is_head = record { transaction = omega arith; epoid = is_epoid; total = omega arith; place = omega arith; checksum = length-sha256 sealed }

head_is : buys.head_told the_purchase (record { pass = pass; price = price; head = None }) (seal_of session (codes "m004") (goods_head_bytes head)) sealed ≡ Ok head
unfolding buys.head_told
head_is =
    step _ _ head (opens goods_head_of session (codes "m004") (goods_head_bytes head) head
    (goods_head_reads_back head is_head))
    ∙ step _ _ tt fits

abbrev came_so : Bool → Bool → Result Deed Reason
came_so more same =
    if more then Ok (buys.part_kept the_purchase (record { pass = pass; price = price; head = None }) head sealed)
    else if same then Ok (buys.goods_ordered wanting 1 the_purchase (record { pass = pass; price = price; head = None }) head sealed)
    else buys.goods_wrong 1 the_purchase (record { pass = pass; price = price; head = None }) None

came : buys.goods_came wanting 1 the_purchase (record { pass = pass; price = price; head = None }) head sealed
    ≡ Ok (deed.Keeps (keeps.Ordered 1 order sealed) (to.Merchant seller_id) (payment pass first_start order))
came = ap (λ (n : ℕ). came_so (nat_lt (0 + n) 32) (bytes_eq (sha256 sealed) (sha256 sealed))) sealed_long ∙ ap (came_so false) (same_bytes (sha256 sealed))

pub hears_goods : buys.heard wanting (message.Goods 1 (seal_of session (codes "m004") (goods_head_bytes head)) sealed)
    ≡ Ok (deed.Keeps (keeps.Ordered 1 order sealed) (to.Merchant seller_id) (payment pass first_start order))
unfolding buys.delivered
hears_goods = step _ _ head head_is ∙ came

pub signed_is : opened signed_of (replicate 32 0x44) (codes "rcpt") part ≡ Ok signed
signed_is =
    opens signed_of (replicate 32 0x44) (codes "rcpt") (signed_bytes signed) signed
    (receipt_reads_back signed (record { receipt = is_receipt; tag = length-hmac_of (replicate 32 0x11) _ }))

pub hears_result : buys.heard ordering (message.Passed 1 part) ≡ Ok (deed.Ends 1 signed (end_of receipt sealed))
unfolding buys.passed buys.receipt_told buys.receipt_fits
hears_result = step _ _ signed signed_is

-- ---- rows of the merchant

ticket_is : ticket_in first_stall pass.ticket 1000 ≡ Ok ticket
unfolding ticket_in
ticket_is = step _ _ ticket (opens ticket_of (replicate 32 0x55) (codes "tick") (ticket_bytes ticket) ticket (ticket_reads_back ticket is_ticket))

pub asks_price : shop_row (shop []) (price_request pass first_start) 1000
    ≡ Ok (record { keep = Some quoted; to = to.Consumer buyer_id; message = quote_message session quote })
unfolding sells.price_asked sells.first_quote
asks_price =
    step _ _ ticket ticket_is
    ∙ step _ _ asked_price (opens price_request_of session (codes "m001") (price_request_bytes asked_price) asked_price
    (price_request_reads_back asked_price (record { transaction = omega arith; product = omega arith; request = omega arith })))

whole : part_at sealed 0 ≡ sealed
whole = take_all PART_BYTES sealed (omega (arith, sealed_long))

abbrev goods_answer : GoodsHead → List ℕ → Result Answer Reason
goods_answer h bytes = Ok (record { keep = Some delivered; to = to.Consumer buyer_id; message = message.Goods 1 (seal_of session (codes "m004") (goods_head_bytes h)) bytes })

pub asks_goods : shop_row (shop (quoted ∷ [])) (goods_request pass first_start 0) 1000
    ≡ Ok (record { keep = Some delivered; to = to.Consumer buyer_id; message = message.Goods 1 (seal_of session (codes "m004") (goods_head_bytes head)) sealed })
unfolding sells.goods_asked sells.first_part
asks_goods =
    step _ _ ticket ticket_is
    ∙ step _ _ asked_goods (opens goods_request_of session (codes "m003") (goods_request_bytes asked_goods) asked_goods
    (goods_request_reads_back asked_goods (record { transaction = omega arith; place = omega arith })))
    ∙ ap (λ (n : ℕ). goods_answer (record { transaction = 1; epoid = epoid; total = n; place = 0; checksum = sha256 sealed }) (part_at sealed 0)) sealed_long
    ∙ ap (goods_answer head) whole

order_fits_sale : sells.order_fits first_stall buyer_id (record { product = 7; price = price; request = request_digest asked_price; progress = progress.Delivered epoid }) epoid (sha256 sealed) order ≡ Ok tt
unfolding sells.order_fits
order_fits_sale = step _ _ tt (ap (field 6) (same_bytes (sha256 sealed))) ∙ ap (field 7) (same_bytes (request_digest asked_price))

order_taken : sells.order_taken first_stall sold (record { product = 7; price = price; request = request_digest asked_price; progress = progress.Delivered epoid }) epoid (sha256 sealed) (order_bytes order) ≡ Ok tt
unfolding sells.order_taken
order_taken = step _ _ order (ap or_seal (order_reads_back order is_order)) ∙ order_fits_sale

pub asks_payment : shop_row (shop (quoted ∷ delivered ∷ [])) (payment pass first_start order) 1000
    ≡ Ok (record { keep = Some endorsed; to = to.Server; message = endorsed_message first_stall epoid (order_bytes order) })
unfolding sells.order_sent sells.first_order
asks_payment =
    step _ _ ticket ticket_is
    ∙ step _ _ asked_payment (opens payment_request_of session (codes "m005") (payment_request_bytes asked_payment) asked_payment
    (payment_request_reads_back asked_payment (record { transaction = omega arith; order = order_short })))
    ∙ step _ _ tt order_taken

pub hears_house : shop_row (shop (quoted ∷ delivered ∷ endorsed ∷ [])) (message.Result (sealed_receipt (replicate 32 0x11) (replicate 32 0x55) receipt) part) 1000
    ≡ Ok (record { keep = Some settled_item; to = to.Consumer buyer_id; message = message.Passed 1 part })
unfolding sells.result_sent sells.first_result
hears_house =
    step _ _ signed (opens signed_of (replicate 32 0x55) (codes "rcpt") (signed_bytes signed) signed
    (receipt_reads_back signed (record { receipt = is_receipt; tag = length-hmac_of (replicate 32 0x11) _ })))

-- ---- the house

abbrev pub consumer_party : Party
consumer_party = record { at = 0; role = CONSUMER; acct = record { 0 = 1 }; nonce = 7; key = replicate 32 0x44 }

abbrev pub merchant_party : Party
merchant_party = record { at = 1; role = MERCHANT; acct = record { 0 = 2 }; nonce = 0; key = replicate 32 0x55 }

pub grants : verdict first_entries first_head 8 TICKET_REQUEST (ask_bytes ask) 1000 ≡ ticket_granted first_head consumer_party merchant_party ask 1000
unfolding ticket_steps
grants = ap told (
    step _ _ ask (ap (well_formed IN_BODY) (ask_reads_back ask (record { consumer = omega arith; merchant = omega arith; nonce = omega arith; tag = length-hmac_of (replicate 32 0x44) _ })))
    ∙ step _ _ consumer_party (in_role first_entries CONSUMER buyer_id consumer_party refl refl)
    ∙ step _ _ tt (tag_so ask.tag ask.tag refl)
    ∙ step _ _ merchant_party (in_role first_entries MERCHANT seller_id merchant_party refl refl)
    )

abbrev pub presented : Presented
presented = record { merchant = merchant_party; consumer = consumer_party; endorsement = endorsement; digest = endorsement_digest endorsement; order = order; hidden = hidden }

abbrev pub payment_entry : Entry
payment_entry = entries.Paid (endorsement_digest endorsement) epoid buyer_id seller_id 7 price (record { 0 = 1 }) (record { 0 = 2 }) 1000 first_key

abbrev pub pays : Decision
pays = record { reply = Receipts receipt receipt; keys = record { house = replicate 32 0x11; first = replicate 32 0x55; second = replicate 32 0x44 }; entry = Some payment_entry }

pub request_short : length request.sealed ≤ MAX_ENDORSED
request_short = sealed_short (replicate 32 0x55) endorsement is_endorsement

endorsement_is : endorsement_in (replicate 32 0x55) request.sealed ≡ Ok endorsement
unfolding endorsement_in
endorsement_is = sealed_so endorsement_of IN_ENDORSEMENT (replicate 32 0x55) (codes "endo") request.sealed endorsement (endorsement_bytes endorsement, refl, endorsement_reads_back endorsement is_endorsement)

hidden_opens : hidden_in (replicate 32 0x44) order.hidden ≡ Ok hidden
unfolding hidden_in
hidden_opens = sealed_so hidden_of IN_HIDDEN (replicate 32 0x44) (codes "hide") order.hidden hidden (hidden_bytes hidden, refl, hidden_reads_back hidden is_hidden)

tag_is : order.tag ≡ order_tag (replicate 32 0x44) order
unfolding untagged_bytes
tag_is = refl

is_new : settlement_in first_entries epoid ≡ None
unfolding settlement_in
is_new = refl

holds_all : payment_steps first_entries presented 1000 ≡ Ok tt
unfolding payment_steps
holds_all = refl

settles : result first_head presented (settled first_entries first_head presented 1000) (Some (settlement_entry (settled first_entries first_head presented 1000))) ≡ pays
unfolding receipt_in_role
settles = ap (λ (steps : Result (Unit {0}) RefusalReason). settled_by steps) holds_all
  where
    settled_with : PaymentOutcome → Settlement
    settled_with how = record { at = 3; digest = endorsement_digest endorsement; epoid = epoid; consumer = buyer_id; merchant = seller_id; product = 7; price = price; moment = 1000; outcome = how }

    settled_by : Result (Unit {0}) RefusalReason → Decision
    settled_by steps = let s = settled_with (outcome_of first_head presented steps) in result first_head presented s (Some (settlement_entry s))

pub pays_order : verdict first_entries first_head 8 ORDER_REQUEST (endorsed_bytes request) 1000 ≡ pays
unfolding order_steps
pays_order = ap told (
    step _ _ request (ap (well_formed IN_BODY) (endorsed_reads_back request (record { merchant = omega arith; sealed = request_short })))
    ∙ step _ _ merchant_party (in_role first_entries MERCHANT seller_id merchant_party refl refl)
    ∙ step _ _ endorsement endorsement_is
    ∙ step _ _ order (ap (well_formed IN_ORDER) (order_reads_back order is_order))
    ∙ step _ _ consumer_party (in_role first_entries CONSUMER buyer_id consumer_party refl refl)
    ∙ step _ _ tt (same_merchants seller_id order refl refl)
    ∙ step _ _ tt (tag_so order.tag (order_tag (replicate 32 0x44) order) tag_is)
    ∙ step _ _ hidden hidden_opens
    ∙ ap (again_or_settle first_entries first_head 8 presented 1000) is_new
    ∙ step _ _ tt (room_for first_entries 8 (omega arith))
    ) ∙ settles

-- ---- the status

pub waits : buys.silent ordering 1 ≡ Ok (deed.Sends to.Server (status_query first_wallet epoid 0))
unfolding buys.silent
waits = refl

abbrev pub query : StatusQuery
query = record { asker = buyer_id; epoid = epoid; least = 0; tag = hmac_of (replicate 32 0x44) (codes "stat" ++ untagged_query first_wallet epoid 0) }

pub is_query : IsQuery query
is_query = record { asker = omega arith; epoid = is_epoid; least = omega arith; tag = length-hmac_of (replicate 32 0x44) _ }

abbrev pub paid_entries : List Entry
paid_entries = first_entries ++ payment_entry ∷ []

query_signed : query.tag ≡ hmac_of (replicate 32 0x44) (codes "stat" ++ signed_part (query_bytes query))
unfolding untagged_query query_bytes epoid_bytes
query_signed = sym (ap (λ (n : ℕ). hmac_of (replicate 32 0x44) (codes "stat" ++ take (n - 32) (query_bytes query))) (query_is_as_long query is_query))

abbrev pub tells : Decision
tells = record { reply = Status 4 epoid (Some receipt); keys = record { house = replicate 32 0x11; first = replicate 32 0x44; second = NO_KEY }; entry = None }

pub tells_status : verdict paid_entries first_head 8 STATUS_REQUEST (query_bytes query) 1000 ≡ tells
unfolding settlement_in receipt_in_role
tells_status =
    ap told (passes paid_entries first_head (query_bytes query) query
    (record { asker = consumer_party; read = query_reads_back query is_query; enrolled = refl; signed = query_signed }) (omega arith))

abbrev pub text : StatusText
text = record { place = 4; epoid = epoid; receipt = Some signed }

pub text_is : opened text_of (replicate 32 0x44) (codes "stat") (seal_of (replicate 32 0x44) (codes "stat") (text_bytes text)) ≡ Ok text
text_is =
    opens text_of (replicate 32 0x44) (codes "stat") (text_bytes text) text
    (status_reads_back text (record { place = omega arith; epoid = is_epoid; receipt = record { receipt = is_receipt; tag = length-hmac_of (replicate 32 0x11) _ } }))

pub hears_status : buys.heard ordering (message.Status (seal_of (replicate 32 0x44) (codes "stat") (text_bytes text))) ≡ Ok (deed.Ends 1 signed (end_of receipt sealed))
unfolding buys.told_status buys.receipt_told buys.receipt_fits epoid_bytes
hears_status = step _ _ text text_is
