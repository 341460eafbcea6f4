-- What a merchant does at a message, a row for each message and stage: its tests in order, each a line, and then what is kept and what
-- is sent. The first test that fails gives the reason for which the message is ignored.
use Rattle.std.specs.Prelude.{ℕ, ◌==◌, ◌&&◌, ◌%◌, if◌then◌else◌, nat_lt, nat_le, List, [], ◌∷◌, ◌++◌, codes, length, Option, Some, None, option_map, Result, Ok, Err}
use Rattle.std.specs.Str.{bytes_eq}
use Rattle.sha2.specs.Sha256.{sha256}
use Rattle.nb_units.specs.Fields.{◌>>=◌}
use Rattle.nb_units.specs.declared.ids.PartyId.{PartyId}
use Rattle.nb_units.specs.declared.ids.Price.{Price}
use Rattle.nb_units.specs.declared.epoid.Epoid.{Epoid}
use Rattle.nb_body.specs.declared.price_request.PriceRequest.{PriceRequest}
use Rattle.nb_body.specs.declared.goods_request.GoodsRequest.{GoodsRequest}
use Rattle.nb_body.specs.Reading.{price_request_of, goods_request_of, payment_request_of}
use Rattle.nb_epo.specs.declared.order.Order.{Order}
use Rattle.nb_epo.specs.Reading.{order_of}
use Rattle.nb_endorse.specs.declared.receipt.Receipt.{Receipt}
use Rattle.nb_endorse.specs.Reading.{signed_of}
use Rattle.nb_ticket.specs.declared.ticket.Ticket.{Ticket}
use Rattle.nb_goods.specs.declared.limits.TheConstants.{MAX_GOODS, PART_BYTES}
use Rattle.nb_goods.specs.Goods.{sealed_goods}
use Rattle.nb_price.specs.Products.{Product, product_in}
use Rattle.nb_price.specs.declared.fault.NoProduct.{NoProduct}
use Rattle.nb_groups.specs.declared.quoting.Quoted.{Quoted}
use Rattle.nb_groups.specs.Offers.{Tariff}
use Rattle.nb_groups.specs.Quote.{quote_of}
use Rattle.nb_msgs.specs.declared.message.Message.{Message}
use Rattle.nb_msgs.specs.declared.message.Message.TheVariants as message
use Rattle.nb_msgs.specs.declared.node.Reason.{Reason}
use Rattle.nb_msgs.specs.declared.node.Reason.TheVariants as reason
use Rattle.nb_msgs.specs.declared.node.Step.{Step}
use Rattle.nb_msgs.specs.declared.node.Step.TheVariants as step
use Rattle.nb_msgs.specs.declared.node.To.{To}
use Rattle.nb_msgs.specs.declared.node.To.TheVariants as to
use Rattle.nb_stall.specs.declared.limits.TheConstants.{LAST_SERIAL}
use Rattle.nb_stall.specs.declared.purchase.Purchase.{Purchase}
use Rattle.nb_stall.specs.declared.stall.Stall.{Stall}
use Rattle.nb_stall.specs.declared.item.Item.{Item}
use Rattle.nb_stall.specs.declared.item.Item.TheVariants as item
use Rattle.nb_stall.specs.declared.sale.Progress.{Progress}
use Rattle.nb_stall.specs.declared.sale.Progress.TheVariants as progress
use Rattle.nb_stall.specs.declared.sale.Sale.{Sale}
use Rattle.nb_merchant.specs.declared.answer.Answer.{Answer}
use Rattle.nb_stall.specs.Spelling.{item_bytes}
use Rattle.nb_units.specs.Epoid.{is_same_epoid}
use Rattle.nb_stall.specs.Sales.{sale_in, epoid_in, deliveries_in, sold_as, next_serial}
use Rattle.nb_merchant.specs.Shop.{Shop, goods_in, sealed_for}
use Rattle.nb_msgs.specs.Tests.{field, found, or_seal, opened}
use Rattle.nb_stall.specs.Tests.{ticket_in, request_digest}
use Rattle.nb_stall.specs.Messages.{key_of, quote_message, goods_message, endorsed_message}

-- to a consumer
abbrev pub to_consumer : PartyId → To
to_consumer consumer = to.Consumer consumer

-- the purchase of a consumer with this number
abbrev pub purchase_by : PartyId → ℕ → Purchase
purchase_by consumer transaction = record { consumer = consumer; transaction = transaction }

-- ---- a request for a price

-- 1 the catalogue has the product: its price
abbrev pub price_of : Option Product → Result Price Reason
price_of None = Err (reason.Field 1)
price_of (Some product) = Ok (record { 0 = product.price })

-- what it costs by a quote
abbrev pub price_quoted : Result Quoted NoProduct → Result Price Reason
price_quoted (Err none) = Err (reason.Field 1)
price_quoted (Ok quoted) = Ok quoted.price

-- what it costs who asks for it at first with this request at a moment: with offers what is quoted for them, with none the catalogue's price
abbrev pub first_price : List Product → Option Tariff → ℕ → PartyId → List ℕ → ℕ → Result Price Reason
first_price products None product consumer request moment = price_of (product_in products product)
first_price products (Some tariff) product consumer request moment = price_quoted (quote_of products tariff product consumer request moment)

-- of a purchase that is new: that price is kept and told
unfoldable pub first_quote : List Product → Option Tariff → List ℕ → PartyId → PriceRequest → ℕ → Result Answer Reason
first_quote products offers session consumer r moment = do
  price ← first_price products offers r.product consumer r.request moment
  Ok (record {
    keep = Some (item.Quoted (purchase_by consumer r.transaction) r.product price (request_digest r));
    to = to.Consumer consumer;
    message = quote_message session (record { transaction = r.transaction; product = r.product; price = price });
  })

-- of one that is known: 1 the request is the kept one. The kept price is told again
unfoldable pub quote_again : List ℕ → PartyId → PriceRequest → Sale → Result Answer Reason
quote_again session consumer r sale = do
  same ← field 1 (bytes_eq (request_digest r) sale.request)
  Ok (record {
    keep = None;
    to = to.Consumer consumer;
    message = quote_message session (record { transaction = r.transaction; product = sale.product; price = sale.price });
  })

-- the row of a request for a price, by whether the purchase is known
abbrev pub quoted : List Product → Option Tariff → List ℕ → PartyId → PriceRequest → ℕ → Option Sale → Result Answer Reason
quoted products offers session consumer r moment None = first_quote products offers session consumer r moment
quoted products offers session consumer r moment (Some sale) = quote_again session consumer r sale

-- the rows of a request for a price: its ticket, its sealed part, and then by the purchase
unfoldable pub price_asked : Shop → List ℕ → List ℕ → ℕ → Result Answer Reason
price_asked shop ticket sealed moment = do
  t ← ticket_in shop.stall ticket moment
  r ← opened price_request_of t.session (codes "m001") sealed
  quoted shop.products shop.offers t.session t.consumer r moment (sale_in shop.items (purchase_by t.consumer r.transaction))

-- ---- a request for goods

-- the identifier of goods that are sealed at a moment under the key of a serial number
abbrev pub epoid_for : Stall → ℕ → ℕ → Epoid
epoid_for stall moment serial = record { merchant = stall.id; moment = moment; serial = serial }

-- a serial number, where it is not behind the last
abbrev pub left_serial : ℕ → Result ℕ Reason
left_serial serial = if nat_le serial LAST_SERIAL then Ok serial else Err reason.Spent

-- of goods that were not sealed yet: 1 the place is 0; 2 the goods have at most MAX_GOODS bytes; a serial number is left. The goods are
-- sealed under the key of that number, and the first part is sent
unfoldable pub first_part : Stall → List ℕ → ℕ → List ℕ → PartyId → GoodsRequest → ℕ → Result Answer Reason
first_part stall goods next session consumer r moment = do
  front ← field 1 (r.place == 0)
  short ← field 2 (nat_le (length goods) MAX_GOODS)
  serial ← left_serial next
  Ok (record {
    keep = Some (item.Delivered (purchase_by consumer r.transaction) (epoid_for stall moment serial) (sha256 (sealed_goods (key_of stall serial) goods)));
    to = to.Consumer consumer;
    message = goods_message session r.transaction (epoid_for stall moment serial) (sealed_goods (key_of stall serial) goods) 0;
  })

-- of goods that were: 1 a part starts at the place. That part is sent, with the kept identifier
unfoldable pub part_again : List ℕ → List ℕ → List ℕ → PartyId → GoodsRequest → Epoid → Result Answer Reason
part_again key goods session consumer r epoid = do
  starts ← field 1 (r.place % PART_BYTES == 0 && nat_lt r.place (length (sealed_goods key goods)))
  Ok (record {
    keep = None;
    to = to.Consumer consumer;
    message = goods_message session r.transaction epoid (sealed_goods key goods) r.place;
  })

-- the row of a request for goods, by whether the goods were sealed before
abbrev pub delivered : Shop → List ℕ → PartyId → GoodsRequest → Sale → ℕ → Option Epoid → Result Answer Reason
delivered shop session consumer r sale moment None =
    first_part shop.stall (goods_in shop.products sale.product) (next_serial shop.items) session consumer r moment
delivered shop session consumer r sale moment (Some epoid) =
    part_again (key_of shop.stall epoid.serial) (goods_in shop.products sale.product) session consumer r epoid

-- the rows of a request for goods: its ticket, its sealed part, and then by the purchase
unfoldable pub goods_asked : Shop → List ℕ → List ℕ → ℕ → Result Answer Reason
goods_asked shop ticket sealed moment = do
  t ← ticket_in shop.stall ticket moment
  r ← opened goods_request_of t.session (codes "m003") sealed
  sale ← found reason.Unknown (sale_in shop.items (purchase_by t.consumer r.transaction))
  delivered shop t.session t.consumer r sale moment (epoid_in sale.progress)

-- ---- an order

-- 1 consumer, 2 merchant, 3 product, 4 price, 5 identifier, 6 checksum and 7 request are those of the sale
unfoldable pub order_fits : Stall → PartyId → Sale → Epoid → List ℕ → Order → Result (Unit {0}) Reason
order_fits stall consumer sale epoid checksum o = do
  consumer ← field 1 (o.consumer.0 == consumer.0)
  merchant ← field 2 (o.merchant.0 == stall.id.0)
  product ← field 3 (o.product == sale.product)
  price ← field 4 (o.price.0 == sale.price.0)
  identifier ← field 5 (is_same_epoid o.epoid epoid)
  checks ← field 6 (bytes_eq o.checksum checksum)
  field 7 (bytes_eq o.request sale.request)

-- the order that the bytes spell, or that they spell none
abbrev pub order_read : List ℕ → Result Order Reason
order_read order = or_seal (order_of order)

-- the seven tests of an order, in order
unfoldable pub order_taken : Stall → Purchase → Sale → Epoid → List ℕ → List ℕ → Result (Unit {0}) Reason
order_taken stall p sale epoid checksum order = do
  o ← order_read order
  order_fits stall p.consumer sale epoid checksum o

-- the row of an order of a purchase that has none
unfoldable pub first_order : Stall → Purchase → Sale → Epoid → List ℕ → List ℕ → Result Answer Reason
first_order stall p sale epoid checksum order = do
  taken ← order_taken stall p sale epoid checksum order
  Ok (record { keep = Some (item.Endorsed p order); to = to.Server; message = endorsed_message stall epoid order })

-- the kept order is endorsed again
abbrev pub endorses_again : Stall → Epoid → List ℕ → Answer
endorses_again stall epoid order = record { keep = None; to = to.Server; message = endorsed_message stall epoid order }

-- the kept result is passed on again
abbrev pub passes_again : Purchase → List ℕ → Answer
passes_again p part = record { keep = None; to = to.Consumer p.consumer; message = message.Passed p.transaction part }

-- 1 its bytes are the kept ones, which are endorsed again
unfoldable pub order_again : Stall → Epoid → List ℕ → List ℕ → Result Answer Reason
order_again stall epoid kept order = do
  same ← field 1 (bytes_eq order kept)
  Ok (endorses_again stall epoid kept)

-- 1 its bytes are the kept ones, and the kept result is passed on
unfoldable pub order_settled : Purchase → List ℕ → List ℕ → List ℕ → Result Answer Reason
order_settled p kept part order = do
  same ← field 1 (bytes_eq order kept)
  Ok (passes_again p part)

-- the row of an order, by how far its purchase has come
abbrev pub ordered : Shop → Purchase → Sale → List ℕ → Progress → Result Answer Reason
ordered shop p sale order progress.Quoted = Err reason.State
ordered shop p sale order (progress.Delivered epoid) =
    first_order shop.stall p sale epoid (sha256 (sealed_for shop.stall shop.products epoid.serial sale.product)) order
ordered shop p sale order (progress.Endorsed epoid kept) = order_again shop.stall epoid kept order
ordered shop p sale order (progress.Settled epoid kept part) = order_settled p kept part order

-- the rows of an order: its ticket, and then by the purchase
unfoldable pub order_sent : Shop → List ℕ → List ℕ → ℕ → Result Answer Reason
order_sent shop ticket sealed moment = do
  t ← ticket_in shop.stall ticket moment
  r ← opened payment_request_of t.session (codes "m005") sealed
  sale ← found reason.Unknown (sale_in shop.items (purchase_by t.consumer r.transaction))
  ordered shop (purchase_by t.consumer r.transaction) sale r.order sale.progress

-- ---- a result

-- of an order that is endorsed: 1 consumer, 2 product and 3 price are those of the sale. The consumer's receipt is kept and passed on as it came
unfoldable pub first_result : Purchase → Sale → Receipt → List ℕ → Result Answer Reason
first_result p sale r part = do
  consumer ← field 1 (r.consumer.0 == p.consumer.0)
  product ← field 2 (r.product == sale.product)
  price ← field 3 (r.price.0 == sale.price.0)
  Ok (record { keep = Some (item.Settled p part); to = to.Consumer p.consumer; message = message.Passed p.transaction part })

-- the row of a result, by how far its purchase has come
abbrev pub resulted : Purchase → Sale → Receipt → List ℕ → Progress → Result Answer Reason
resulted p sale r part (progress.Endorsed epoid order) = first_result p sale r part
resulted p sale r part other = Err reason.State

-- the merchant's receipt opens under the stall's key, and its identifier is a kept one
unfoldable pub result_sent : Shop → List ℕ → List ℕ → Result Answer Reason
result_sent shop merchant consumer = do
  s ← opened signed_of shop.stall.key (codes "rcpt") merchant
  p ← found reason.Unknown (sold_as (deliveries_in shop.items) s.receipt.epoid)
  sale ← found reason.Unknown (sale_in shop.items p)
  resulted p sale s.receipt consumer sale.progress

-- ---- nothing was heard for long

-- the order is endorsed again, or the result passed on again
abbrev pub unheard : Stall → Purchase → Progress → Result Answer Reason
unheard stall p progress.Quoted = Err reason.State
unheard stall p (progress.Delivered epoid) = Err reason.State
unheard stall p (progress.Endorsed epoid order) = Ok (endorses_again stall epoid order)
unheard stall p (progress.Settled epoid order part) = Ok (passes_again p part)

-- the rows of a purchase of which nothing was heard for long
unfoldable pub silent : Shop → Purchase → Result Answer Reason
silent shop p = do
  sale ← found reason.Unknown (sale_in shop.items p)
  unheard shop.stall p sale.progress

-- ---- what is done

-- at a message of a consumer
abbrev pub heard : Shop → Message → ℕ → Result Answer Reason
heard shop (message.PriceAsk ticket sealed) moment = price_asked shop ticket sealed moment
heard shop (message.GoodsAsk ticket sealed) moment = goods_asked shop ticket sealed moment
heard shop (message.Order ticket sealed) moment = order_sent shop ticket sealed moment
heard shop (message.Refusal refusal) moment = Err (reason.Refused refusal.code)
heard shop other moment = Err reason.Kind

-- at a message of the house
abbrev pub heard_of_house : Shop → Message → Result Answer Reason
heard_of_house shop (message.Result merchant consumer) = result_sent shop merchant consumer
heard_of_house shop (message.Refusal refusal) = Err (reason.Refused refusal.code)
heard_of_house shop other = Err reason.Kind

-- the consumer whose ticket a message shows, where it is a consumer's and the ticket opens for this merchant at this moment
abbrev pub asker_of : Result Ticket Reason → Option PartyId
asker_of (Ok ticket) = Some ticket.consumer
asker_of (Err why) = None

-- the consumer whose ticket a message shows, of any kind
abbrev pub asker_in : Shop → Message → ℕ → Option PartyId
asker_in shop (message.PriceAsk ticket sealed) moment = asker_of (ticket_in shop.stall ticket moment)
asker_in shop (message.GoodsAsk ticket sealed) moment = asker_of (ticket_in shop.stall ticket moment)
asker_in shop (message.Order ticket sealed) moment = asker_of (ticket_in shop.stall ticket moment)
asker_in shop other moment = None

-- as a step: the item is spelled
abbrev pub step_of : Result Answer Reason → Step
step_of (Ok answer) = step.Move (option_map item_bytes answer.keep) answer.to answer.message
step_of (Err why) = step.Ignored why

-- what is kept then: an item or none
abbrev pub listed : Option Item → List Item
listed None = []
listed (Some x) = x ∷ []

-- what is kept by a row: an item or none
abbrev pub kept_by : Result Answer Reason → List Item
kept_by (Ok answer) = listed answer.keep
kept_by (Err why) = []

-- the merchant behind that
abbrev pub after : Shop → Result Answer Reason → Shop
after shop done = record shop { items = shop.items ++ kept_by done }
