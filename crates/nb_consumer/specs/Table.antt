-- What a consumer does at a message, at a start and where it heard nothing for long, a row for each message and phase: its tests in order,
-- each a line, and then what is kept and what is sent. The first test that fails gives the reason for which it does nothing.
use Rattle.std.specs.Prelude.{ℕ, ◌+◌, ◌-◌, ◌==◌, ◌&&◌, nat_lt, nat_le, min, is_none, Bool, true, false, List, ◌++◌, codes, length, Option, Some, None, Result, Ok, Err, if◌then◌else◌}
use Rattle.std.specs.Str.{bytes_eq}
use Rattle.sha2.specs.Sha256.{sha256}
use Rattle.nb_units.specs.Epoid.{is_same_epoid}
use Rattle.nb_units.specs.Fields.{◌>>=◌}
use Rattle.nb_units.specs.Epoid.{epoid_bytes}
use Rattle.nb_units.specs.declared.ids.PartyId.{PartyId}
use Rattle.nb_units.specs.declared.ids.Price.{Price}
use Rattle.nb_body.specs.declared.goods_head.GoodsHead.{GoodsHead}
use Rattle.nb_body.specs.Reading.{quote_of, goods_head_of}
use Rattle.nb_epo.specs.declared.order.Order.{Order}
use Rattle.nb_endorse.specs.declared.receipt.Receipt.{Receipt}
use Rattle.nb_endorse.specs.declared.receipt.Signed.{Signed}
use Rattle.nb_endorse.specs.Differing.{first_difference}
use Rattle.nb_endorse.specs.Reading.{signed_of}
use Rattle.nb_ticket.specs.declared.granted.Granted.{Granted}
use Rattle.nb_ticket.specs.Reading.{granted_of}
use Rattle.nb_goods.specs.declared.limits.TheConstants.{MAX_SEALED, PART_BYTES}
use Rattle.nb_msgs.specs.StatusText.{text_of}
use Rattle.nb_msgs.specs.declared.message.Message.{Message}
use Rattle.nb_msgs.specs.declared.message.Message.TheVariants as message
use Rattle.nb_msgs.specs.declared.node.Reason.{Reason}
use Rattle.nb_msgs.specs.declared.node.Reason.TheVariants as reason
use Rattle.nb_msgs.specs.declared.node.Step.{Step}
use Rattle.nb_msgs.specs.declared.node.Step.TheVariants as step
use Rattle.nb_msgs.specs.declared.node.To.TheVariants as to
use Rattle.nb_wallet.specs.declared.wallet.Wallet.{Wallet}
use Rattle.nb_wallet.specs.declared.wallet.Start.{Start}
use Rattle.nb_wallet.specs.declared.item.SessionTicket.{SessionTicket}
use Rattle.nb_wallet.specs.declared.item.Item.TheVariants as item
use Rattle.nb_wallet.specs.declared.purchase.Stage.{Stage}
use Rattle.nb_wallet.specs.declared.purchase.Stage.TheVariants as stage
use Rattle.nb_wallet.specs.Purchases.{Purchase}
use Rattle.nb_consumer.specs.declared.rows.Wanting.{Wanting}
use Rattle.nb_consumer.specs.declared.rows.Owing.{Owing}
use Rattle.nb_consumer.specs.declared.deed.Deed.{Deed}
use Rattle.nb_consumer.specs.declared.deed.Deed.TheVariants as deed
use Rattle.nb_wallet.specs.Spelling.{item_bytes}
use Rattle.nb_wallet.specs.Stages.{end_of}
use Rattle.nb_consumer.specs.State.{Buyer, place_of, purchase_of, ordered_with, changed, raised, remembered}
use Rattle.nb_msgs.specs.Tests.{unless, field, found, opened}
use Rattle.nb_wallet.specs.Orders.{order_for}
use Rattle.nb_asking.specs.Messages.{ticket_request, price_request, goods_request, payment, status_query}

-- ---- a start: the number is not known. A ticket is asked for

-- the row of a start
unfoldable pub started : Buyer → Start → Result Deed Reason
started b s = do
  new ← unless (is_none (place_of b.purchases s.transaction)) reason.State
  Ok (deed.Keeps (item.Started s) to.Server (ticket_request b.wallet s))

-- ---- a grant, of a purchase that a ticket was asked for: 1 its merchant is the purchase's. A price is asked for

-- whether a purchase waits for its ticket
abbrev pub is_ticketing : Stage → Bool
is_ticketing stage.Ticketing = true
is_ticketing other = false

-- the session and its ticket, as a grant gives them
abbrev pub pass_of : Granted → SessionTicket
pass_of g = record { session = g.session; ticket = g.ticket }

-- the row of a grant
unfoldable pub granted : Buyer → List ℕ → Result Deed Reason
granted b sealed = do
  g ← opened granted_of b.wallet.key (codes "gran") sealed
  p ← found reason.Unknown (purchase_of b g.nonce)
  waits ← unless (is_ticketing p.stage) reason.State
  merchant ← field 1 (g.merchant.0 == p.start.merchant.0)
  Ok (deed.Keeps (item.Granted g.nonce (pass_of g)) (to.Merchant p.start.merchant) (price_request (pass_of g) p.start))

-- ---- a quote, of a purchase that a price was asked for: 1 number; 2 product; 3 price from 1 to the limit. The goods are asked for

-- a price from 1 to the limit
abbrev pub is_price : Price → Price → Bool
is_price price limit = nat_le 1 price.0 && nat_le price.0 limit.0

-- of a purchase that a price was asked for: its ticket
abbrev pub pass_of_asked : Stage → Option SessionTicket
pass_of_asked (stage.Asked pass) = Some pass
pass_of_asked other = None

-- the tests of a quote, and the price in it
unfoldable pub price_quoted : Start → SessionTicket → List ℕ → Result Price Reason
price_quoted s pass sealed = do
  q ← opened quote_of pass.session (codes "m002") sealed
  number ← field 1 (q.transaction == s.transaction)
  product ← field 2 (q.product == s.product)
  price ← field 3 (is_price q.price s.limit)
  Ok q.price

-- the row of a quote
unfoldable pub quoted : Buyer → ℕ → List ℕ → Result Deed Reason
quoted b transaction sealed = do
  p ← found reason.Unknown (purchase_of b transaction)
  pass ← found reason.State (pass_of_asked p.stage)
  price ← price_quoted p.start pass sealed
  Ok (deed.Keeps (item.Wanted transaction price) (to.Merchant p.start.merchant) (goods_request pass p.start 0))

-- ---- a part of the goods, of a purchase whose goods were asked for

-- the ticket, the price, and what was said of the last part that is held, if one is
abbrev pub wanting_in : Stage → Option Wanting
wanting_in (stage.Wanted pass price head) = Some (record { pass = pass; price = price; head = head })
wanting_in other = None

-- where parts are held, what was said of them passes this test
abbrev pub agrees : (GoodsHead → Bool) → Option GoodsHead → Bool
agrees test None = true
agrees test (Some held) = test held

-- 2 the identifier is the merchant's, and the held one; 3 the place is the number of bytes held, the total is at most MAX_SEALED, and the held one, the
-- place is at most the total, and the part has PART_BYTES bytes, or those that are left; 4 the checksum is the held one
unfoldable pub part_fits : PartyId → Option GoodsHead → List ℕ → GoodsHead → List ℕ → Result (Unit {0}) Reason
part_fits merchant held sealed h part = do
  identifier ← field 2 (h.epoid.merchant.0 == merchant.0 && agrees (λ k. is_same_epoid h.epoid k.epoid) held)
  place ← field 3 (h.place == length sealed && nat_le h.total MAX_SEALED && agrees (λ k. h.total == k.total) held && nat_le h.place h.total && length part == min PART_BYTES (h.total - h.place))
  field 4 (agrees (λ k. bytes_eq h.checksum k.checksum) held)

-- 1 number, and the tests 2 to 4
unfoldable pub head_told : Purchase → Wanting → List ℕ → List ℕ → Result GoodsHead Reason
head_told p w head part = do
  h ← opened goods_head_of w.pass.session (codes "m004") head
  number ← field 1 (h.transaction == p.start.transaction)
  fits ← part_fits p.start.merchant w.head p.held h part
  Ok h

-- a part that is not the last is kept, and the next one asked for
abbrev pub part_kept : Purchase → Wanting → GoodsHead → List ℕ → Deed
part_kept p w h part = deed.Keeps (item.Part h part) (to.Merchant p.start.merchant) (goods_request w.pass p.start (h.place + length part))

-- all parts have the checksum that was told: they are ordered
abbrev pub order_made : Buyer → Purchase → Wanting → GoodsHead → Order
order_made b p w h = order_for b.wallet p.start w.price h.epoid h.checksum

-- all parts are there: the order is kept with the last one, and sent
abbrev pub goods_ordered : Buyer → ℕ → Purchase → Wanting → GoodsHead → List ℕ → Deed
goods_ordered b transaction p w h part =
    deed.Keeps (item.Ordered transaction (order_made b p w h) part) (to.Merchant p.start.merchant) (payment w.pass p.start (order_made b p w h))

-- they have not: the parts that are held are forgotten and the goods asked for from the front; where none are held, 4
abbrev pub goods_wrong : ℕ → Purchase → Wanting → Option GoodsHead → Result Deed Reason
goods_wrong transaction p w (Some held) = Ok (deed.Keeps (item.Forgotten transaction) (to.Merchant p.start.merchant) (goods_request w.pass p.start 0))
goods_wrong transaction p w None = Err (reason.Field 4)

-- a part that fits is kept; the last one makes the order where all parts have the checksum, and else the parts are wrong
abbrev pub goods_came : Buyer → ℕ → Purchase → Wanting → GoodsHead → List ℕ → Result Deed Reason
goods_came b transaction p w h part =
    if nat_lt (h.place + length part) h.total then Ok (part_kept p w h part)
    else if bytes_eq (sha256 (p.held ++ part)) h.checksum then Ok (goods_ordered b transaction p w h part)
    else goods_wrong transaction p w w.head

-- the row of a part
unfoldable pub delivered : Buyer → ℕ → List ℕ → List ℕ → Result Deed Reason
delivered b transaction head part = do
  p ← found reason.Unknown (purchase_of b transaction)
  w ← found reason.State (wanting_in p.stage)
  h ← head_told p w head part
  goods_came b transaction p w h part

-- ---- a receipt, of a purchase that was ordered: 1 identifier, 2 consumer, 3 merchant, 4 product and 5 price are the order's. It ends

-- the ticket, the order, and the greatest place
abbrev pub owing_in : Stage → Option Owing
owing_in (stage.Ordered pass order least) = Some (record { pass = pass; order = order; least = least })
owing_in other = None

-- no test failed, or the one of this number
abbrev pub none_failed : Option ℕ → Result (Unit {0}) Reason
none_failed None = Ok tt
none_failed (Some n) = Err (reason.Field n)

-- the receipt is of this order
unfoldable pub receipt_fits : Order → Receipt → Result (Unit {0}) Reason
receipt_fits o r = none_failed (first_difference r o.epoid o.consumer o.merchant o.product o.price)

-- a receipt that fits the order ends its purchase
unfoldable pub receipt_told : ℕ → Purchase → Owing → Signed → Result Deed Reason
receipt_told transaction p o s = do
  fits ← receipt_fits o.order s.receipt
  Ok (deed.Ends transaction s (end_of s.receipt p.held))

-- the row of a receipt that a merchant passed on
unfoldable pub passed : Buyer → ℕ → List ℕ → Result Deed Reason
passed b transaction part = do
  p ← found reason.Unknown (purchase_of b transaction)
  o ← found reason.State (owing_in p.stage)
  s ← opened signed_of b.wallet.key (codes "rcpt") part
  receipt_told transaction p o s

-- ---- a status, of a purchase that was ordered: with a receipt as above, without one the order is sent again

-- with a receipt a status ends the purchase, without one the order is sent again
abbrev pub status_told : ℕ → Purchase → Owing → ℕ → Option Signed → Result Deed Reason
status_told transaction p o place (Some s) = receipt_told transaction p o s
status_told transaction p o place None = Ok (deed.Hears transaction place (to.Merchant p.start.merchant) (payment o.pass p.start o.order))

-- the row of a status
unfoldable pub told_status : Buyer → List ℕ → Result Deed Reason
told_status b sealed = do
  t ← opened text_of b.wallet.key (codes "stat") sealed
  transaction ← found reason.Unknown (ordered_with b.orders (epoid_bytes t.epoid))
  p ← found reason.Unknown (purchase_of b transaction)
  o ← found reason.State (owing_in p.stage)
  status_told transaction p o t.place t.receipt

-- ---- nothing was heard for long: the last message again; an order is not, and its status is asked for instead

-- what is said again at each stage of a purchase
abbrev pub unheard : Wallet → Purchase → Stage → Result Deed Reason
unheard w p stage.Ticketing = Ok (deed.Sends to.Server (ticket_request w p.start))
unheard w p (stage.Asked pass) = Ok (deed.Sends (to.Merchant p.start.merchant) (price_request pass p.start))
unheard w p (stage.Wanted pass price head) = Ok (deed.Sends (to.Merchant p.start.merchant) (goods_request pass p.start (length p.held)))
unheard w p (stage.Ordered pass order least) = Ok (deed.Sends to.Server (status_query w order.epoid least))
unheard w p ended = Err reason.State

-- the row of a purchase of which nothing was heard for long
unfoldable pub silent : Buyer → ℕ → Result Deed Reason
silent b transaction = do
  p ← found reason.Unknown (purchase_of b transaction)
  unheard b.wallet p p.stage

-- ---- what is done at a message

-- the row of a message, by its kind
abbrev pub heard : Buyer → Message → Result Deed Reason
heard b (message.Grant sealed) = granted b sealed
heard b (message.Quote transaction sealed) = quoted b transaction sealed
heard b (message.Goods transaction head part) = delivered b transaction head part
heard b (message.Passed transaction part) = passed b transaction part
heard b (message.Status sealed) = told_status b sealed
heard b (message.Refusal refusal) = Err (reason.Refused refusal.code)
heard b other = Err reason.Kind

-- as a step: the item is spelled
abbrev pub step_of : Result Deed Reason → Step
step_of (Ok (deed.Sends to message)) = step.Move None to message
step_of (Ok (deed.Hears transaction place to message)) = step.Move None to message
step_of (Ok (deed.Keeps item to message)) = step.Move (Some (item_bytes item)) to message
step_of (Ok (deed.Ends transaction receipt end)) = step.Ended (item_bytes (item.Ended transaction receipt)) end
step_of (Err why) = step.Ignored why

-- and what is known then: what is kept is remembered, and a place that was told is not forgotten
abbrev pub after : Buyer → Result Deed Reason → Buyer
after b (Ok (deed.Sends to message)) = b
after b (Ok (deed.Hears transaction place to message)) = record b { purchases = changed b.purchases transaction (raised place) }
after b (Ok (deed.Keeps item to message)) = remembered b item
after b (Ok (deed.Ends transaction receipt end)) = remembered b (item.Ended transaction receipt)
after b (Err why) = b
