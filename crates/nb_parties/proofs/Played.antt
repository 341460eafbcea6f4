-- The purchase in numbers, event by event: it meets what the laws premise.
use Rattle.std.proofs.Common.{◌≡◌, ◌<◌, ◌^◌, inl, inr, ℕ, zero, suc, List, [], ◌∷◌, ◌++◌, ◌-◌, take, drop, Option, None, Some, Result, Ok, refl, sym, ap, subst, ◌∙◌, arith, length}
use Rattle.std.specs.Prelude.{codes, replicate, if◌then◌else◌}
use Rattle.std.specs.List.{slice_get}
use Rattle.std.specs.Result.{is_ok}
use Rattle.nb_seal.specs.Seal.{seal_of, text_in}
use Rattle.nb_seal.proofs.Opening.{text_in_opens, length-seal_of, opens_once}
use Rattle.nb_epo.specs.Spelling.{order_bytes}
use Rattle.nb_body.specs.Spelling.{price_request_bytes, goods_request_bytes, payment_request_bytes, goods_head_bytes, quote_bytes, endorsed_bytes, query_bytes}
use Rattle.nb_body.proofs.Layouts.{price_request_is_as_long, quote_is_as_long, goods_request_is_as_long, goods_head_is_as_long, payment_request_is_as_long, query_reads_back}
use Rattle.nb_body.proofs.Layouts.{endorsed_reads_back}
use Rattle.nb_body.specs.Reading.{endorsed_of}
use Rattle.nb_body.specs.declared.endorsed.EndorsedOrder.{EndorsedOrder}
use Rattle.nb_endorse.proofs.Layouts.{one_endorsement}
use Rattle.nb_endorse.specs.Spelling.{endorsement_bytes, IsEndorsement}
use Rattle.nb_endorse.specs.declared.endorsement.Endorsement.{Endorsement}
use Rattle.nb_stall.specs.declared.stall.Stall.{Stall}
use Rattle.nb_merchant.specs.Sending.{Endorses}
use Rattle.nb_world.proofs.Lists.{all_at}
use Rattle.nb_units.specs.declared.frames.TheConstants.{ORDER_REQUEST, STATUS_REQUEST}
use Rattle.nb_units.specs.declared.width.TheConstants.{SEAL}
use Rattle.nb_book.specs.Laws.{StaysLegal}
use Rattle.nb_book.specs.Legal.{LegalAfter, Legal}
use Rattle.nb_entry.specs.declared.entry.Entry.{Entry}
use Rattle.nb_entry.specs.declared.entry.Entry.TheVariants.{Enrol, Fund}
use Rattle.nb_entry.specs.declared.entry.TheConstants.{CONSUMER, MERCHANT}
use Rattle.nb_msgs.specs.Bodies.{kind_of, body_bytes, IsMessage}
use Rattle.nb_msgs.specs.Reading.{message_of}
use Rattle.nb_msgs.specs.ReplyBytes.{sealed_receipt}
use Rattle.nb_msgs.specs.declared.message.Message.{Message}
use Rattle.nb_msgs.specs.declared.message.Message.TheVariants as message
use Rattle.nb_msgs.specs.declared.node.Reason.{Reason}
use Rattle.nb_msgs.specs.declared.node.To.{To}
use Rattle.nb_msgs.specs.declared.node.To.TheVariants as to
use Rattle.nb_msgs.specs.StatusText.{text_bytes}
use Rattle.nb_endorse.specs.declared.receipt.TheConstants.{NO_KEY}
use Rattle.nb_book.specs.Money.{balance}
use Rattle.nb_msgs.proofs.Messages.{message_reads_back}
use Rattle.nb_msgs.proofs.ReplyMessages.{reply_is_message}
use Rattle.nb_endorse.specs.declared.reply.Reply.TheVariants.{Result as Receipts, Grant, Status}
use Rattle.nb_endorse.specs.declared.reply.ReplyKeys.{ReplyKeys}
use Rattle.nb_escrow.specs.Tickets.{ticket_granted}
use Rattle.nb_escrow.specs.Verdict.{verdict}
use Rattle.nb_escrow.specs.declared.decision.Decision.{Decision}
use Rattle.nb_ticket.specs.Sealed.{sealed_grant}
use Rattle.nb_asking.specs.Messages.{ticket_request, price_request, goods_request, payment, status_query}
use Rattle.nb_stall.specs.Messages.{quote_message, endorsed_message}
use Rattle.nb_stall.specs.declared.item.Item.{Item}
use Rattle.nb_consumer.specs.State.{Buyer, new_buyer, purchase_of}
use Rattle.nb_consumer.specs.Goods.{phase_of, phase_in, goods_of, goods_in}
use Rattle.nb_consumer.specs.Known.{AllSo}
use Rattle.nb_consumer.specs.declared.deed.Deed.TheVariants as deed
use Rattle.nb_consumer.specs.declared.phase.Phase.TheVariants as phase
use Rattle.nb_wallet.specs.Stages.{end_of, stage_opened, stage_ended}
use Rattle.nb_wallet.specs.Purchases.{Purchase}
use Rattle.nb_wallet.specs.declared.purchase.Stage.{Stage}
use Rattle.nb_wallet.specs.declared.purchase.Stage.TheVariants as stage
use Rattle.nb_consumer.specs.Table as buys
use Rattle.nb_consumer.specs.declared.deed.Deed.{Deed}
use Rattle.nb_merchant.specs.Shop.{Shop}
use Rattle.nb_merchant.specs.Keeping.{AllFollow}
use Rattle.nb_merchant.specs.declared.answer.Answer.{Answer}
use Rattle.nb_world.specs.declared.call.Call.{Call}
use Rattle.nb_world.specs.declared.call.CallPhase.{CallPhase}
use Rattle.nb_world.specs.declared.call.CallPhase.TheVariants.{Waiting, InTurn, Answered}
use Rattle.nb_world.specs.declared.event.Event.{Event}
use Rattle.nb_world.specs.declared.event.Event.TheVariants as on
use Rattle.nb_world.specs.declared.packet.Maker.{Maker}
use Rattle.nb_world.specs.declared.packet.Maker.TheVariants as by
use Rattle.nb_world.specs.declared.packet.Packet.{Packet}
use Rattle.nb_world.specs.declared.turning.Acknowledged.{Acknowledged}
use Rattle.nb_world.specs.declared.turning.Origin.{Origin}
use Rattle.nb_world.specs.declared.turning.Stage.{Stage as TurnStage}
use Rattle.nb_world.specs.declared.turning.Stage.TheVariants as turn
use Rattle.nb_world.specs.declared.turning.Turning.{Turning}
use Rattle.nb_world.specs.declared.turning.Verdict.{Verdict}
use Rattle.nb_world.specs.World.{World}
use Rattle.nb_world.specs.Laws.{Asks, IsSetUp}
use Rattle.nb_world.proofs.Chains.{same_some}
use Rattle.nb_world.specs.Steps.{consumer_at, consumer_goes, merchant_goes, next, run, buy_of, deliver_of, turn_of, write_of, open_of, answer_of, quiet_consumer_of}
use Rattle.nb_world.specs.Headline.{verdict_shown}
use Rattle.nb_parties.specs.Rules.{buyer_goes, buyer_hears, shop_row, shop_goes, shop_hears, shown}
use Rattle.nb_parties.specs.Worked.{buyer_id, seller_id, first_wallet, first_stall, first_head, first_entries, first_start, first_world, first_rules, first_key, goods_come, order_is_paid, status_is_asked, behind, OrderIsKept, OrderIsEndorsed, PaymentStands, EndsPaid, IsReported, PremisesAreMet}
use Rattle.nb_parties.specs.Ends.{TellsReceipt}
use Rattle.nb_parties.specs.Goods.{IsEnrolled, MerchantsAreEnrolled}
use Rattle.nb_parties.specs.Held.{ConsumersAreSo}
use Rattle.nb_parties.proofs.Endorsing.{SentFrom, SentBy, all_sent}
use Rattle.nb_parties.proofs.Paying.{is_endorsement as sent_endorsement, key_of_goods, sealed_short}
use Rattle.nb_parties.proofs.Script.{endorsement, is_endorsement, request_short, is_epoid, is_query, query, paid_entries, tells, tells_status, text, text_is, hears_status, waits, signed_is, price, is_ticket, is_receipt, is_head, ticket_short, order_short, order_long, sealed_long, asked_price, asked_goods, asked_payment, consumer_party, merchant_party, ask, session, grant, pass, quote, sealed, head, epoid, order, request, receipt, signed, part, ticketing, asking, wanting, ordering, shop, quoted, delivered, endorsed, settled_item, pays, payment_entry, hears_grant, hears_quote, hears_goods, hears_result, asks_price, asks_goods, asks_payment, hears_house, grants, pays_order}

-- ---- packets

abbrev packet : Maker → To → Message → Packet
packet maker whom m = record { kind = kind_of m; body = body_bytes m; maker = maker; to = whom }

abbrev buyers : To → Message → Packet
buyers whom m = packet (by.Consumer buyer_id) whom m

abbrev sellers : To → Message → Packet
sellers whom m = packet (by.Merchant seller_id) whom m

abbrev granted : Message
granted = message.Grant (sealed_grant (replicate 32 0x44) grant)

abbrev goods : Message
goods = message.Goods 1 (seal_of session (codes "m004") (goods_head_bytes head)) sealed

abbrev resulted : Message
resulted = message.Result (sealed_receipt (replicate 32 0x11) (replicate 32 0x55) receipt) part

abbrev first_packets : List Packet
first_packets =
    buyers to.Server (ticket_request first_wallet first_start) ∷ packet (by.Server 0 3) (to.Consumer buyer_id) granted ∷ []

abbrev more_packets : List Packet
more_packets =
    buyers (to.Merchant seller_id) (price_request pass first_start) ∷ sellers (to.Consumer buyer_id) (quote_message session quote)
    ∷ buyers (to.Merchant seller_id) (goods_request pass first_start 0) ∷ sellers (to.Consumer buyer_id) goods ∷ []

abbrev last_packets : List Packet
last_packets =
    buyers (to.Merchant seller_id) (payment pass first_start order) ∷ sellers to.Server (endorsed_message first_stall epoid (order_bytes order))
    ∷ packet (by.Server 1 3) (to.Merchant seller_id) resulted ∷ sellers (to.Consumer buyer_id) (message.Passed 1 part) ∷ []

-- ---- worlds

abbrev world_of : Buyer → List Item → List Packet → List Call → Option Turning → List Entry → List Origin → List Acknowledged → World Buyer Shop
world_of b items packets calls turning entries origins acknowledged = record {
  consumers = b ∷ [];
  merchants = shop items ∷ [];
  packets = packets;
  calls = calls;
  turn = turning;
  durable = entries;
  server = entries;
  origins = origins;
  acknowledged = acknowledged;
  moment = 1000;
}

-- the first call, of the request for a ticket, and the second, of the endorsement
abbrev ticket_call : CallPhase → Call
ticket_call phase = record { packet = 0; moment = 1000; phase = phase }

abbrev order_call : CallPhase → Call
order_call phase = record { packet = 7; moment = 1000; phase = phase }

abbrev quiet_world : Buyer → List Item → List Packet → World Buyer Shop
quiet_world b items packets = world_of b items packets (ticket_call Answered ∷ []) None first_entries [] []

abbrev paid_world : Buyer → List Item → List Packet → World Buyer Shop
paid_world b items packets =
    world_of b items packets (ticket_call Answered ∷ order_call Answered ∷ []) None (first_entries ++ payment_entry ∷ []) (record { place = 3; call = 1 } ∷ [])
    (record { entry = payment_entry; place = 3 } ∷ [])

-- ---- messages that were sent are read

abbrev keys : ReplyKeys
keys = record { house = replicate 32 0x11; first = replicate 32 0x44; second = replicate 32 0x55 }

abbrev result_keys : ReplyKeys
result_keys = record { house = replicate 32 0x11; first = replicate 32 0x55; second = replicate 32 0x44 }

abbrev reads : Message → Type 0
reads m = message_of (kind_of m) (body_bytes m) ≡ Ok m

granted_read : reads granted
granted_read = message_reads_back granted (reply_is_message keys (Grant buyer_id seller_id 1 4600 session) (is_ticket, omega arith)).0

price_read : reads (price_request pass first_start)
price_read =
    message_reads_back (price_request pass first_start)
    (ticket_short, omega (arith, length-seal_of session (codes "m001") (price_request_bytes asked_price), price_request_is_as_long asked_price (record { transaction = omega arith; product = omega arith; request = omega arith })))

quote_read : reads (quote_message session quote)
quote_read =
    message_reads_back (quote_message session quote)
    (omega arith, omega (arith, length-seal_of session (codes "m002") (quote_bytes quote), quote_is_as_long quote (record { transaction = omega arith; product = omega arith; price = omega arith })))

goods_asked_read : reads (goods_request pass first_start 0)
goods_asked_read =
    message_reads_back (goods_request pass first_start 0)
    (ticket_short, omega (arith, length-seal_of session (codes "m003") (goods_request_bytes asked_goods), goods_request_is_as_long asked_goods (record { transaction = omega arith; place = omega arith })))

goods_read : reads goods
goods_read =
    message_reads_back goods
    (omega arith, omega (arith, length-seal_of session (codes "m004") (goods_head_bytes head), goods_head_is_as_long head is_head), omega (arith, sealed_long))

payment_read : reads (payment pass first_start order)
payment_read =
    message_reads_back (payment pass first_start order)
    (ticket_short, omega (arith, length-seal_of session (codes "m005") (payment_request_bytes asked_payment), payment_request_is_as_long asked_payment (record { transaction = omega arith; order = order_short }), order_long))

resulted_is : IsMessage resulted
resulted_is = (reply_is_message result_keys (Receipts receipt receipt) (is_receipt, is_receipt)).0

resulted_read : reads resulted
resulted_read = message_reads_back resulted resulted_is

passed_read : reads (message.Passed 1 part)
passed_read = message_reads_back (message.Passed 1 part) (omega arith, resulted_is.1)

-- ---- a step of the one consumer, of the one merchant

consumer_step : (w : World Buyer Shop) (b : Buyer) (m : Message) (d : Deed) → reads m → buys.heard b m ≡ Ok d
    → (if is_ok (message_of (kind_of m) (body_bytes m)) then consumer_goes w 0 buyer_id (buyer_hears b (message_of (kind_of m) (body_bytes m))) else w) ≡ consumer_goes w 0 buyer_id (buyer_goes b (Ok d))
consumer_step w b m d read row =
    ap (λ (r : Result Message ℕ). if is_ok r then consumer_goes w 0 buyer_id (buyer_hears b r) else w) read ∙ ap (λ (x : Result Deed Reason). consumer_goes w 0 buyer_id (buyer_goes b x)) row

merchant_step : (w : World Buyer Shop) (s : Shop) (m : Message) (a : Answer) → reads m → shop_row s m 1000 ≡ Ok a
    → (if is_ok (message_of (kind_of m) (body_bytes m)) then merchant_goes w 0 seller_id (shop_hears s (message_of (kind_of m) (body_bytes m)) 1000) else w) ≡ merchant_goes w 0 seller_id (shop_goes s (Ok a))
merchant_step w s m a read row =
    ap (λ (r : Result Message ℕ). if is_ok r then merchant_goes w 0 seller_id (shop_hears s r 1000) else w) read ∙ ap (λ (x : Result Answer Reason). merchant_goes w 0 seller_id (shop_goes s x)) row

go : (w behind : World Buyer Shop) (e : Event) (es : List Event) → next first_rules w e ≡ behind → run first_rules w (e ∷ es) ≡ run first_rules behind es
go w behind e es is = ap (λ (v : World Buyer Shop). run first_rules v es) is

-- ---- until the goods come

abbrev begun : World Buyer Shop
begun = world_of (new_buyer first_wallet) [] [] [] None first_entries [] []

abbrev ticket_turn : Verdict → Turning
ticket_turn v = record { call = 0; at = 3; verdict = v; stage = turn.Decided }

abbrev bought : World Buyer Shop
bought = world_of ticketing [] (take 1 first_packets) [] None first_entries [] []

buys_so : next first_rules begun (on.Buy buyer_id first_start) ≡ bought
unfolding buy_of buys.started
buys_so = refl

abbrev called : World Buyer Shop
called = world_of ticketing [] (take 1 first_packets) (ticket_call Waiting ∷ []) None first_entries [] []

called_so : next first_rules bought (on.Deliver 0) ≡ called
unfolding deliver_of
called_so = refl

abbrev in_turn : Verdict → World Buyer Shop
in_turn v = world_of ticketing [] (take 1 first_packets) (ticket_call InTurn ∷ []) (Some (ticket_turn v)) first_entries [] []

abbrev granting : Verdict
granting = verdict_shown shown (ticket_granted first_head consumer_party merchant_party ask 1000)

turned_so : next first_rules called (on.Turn 0) ≡ in_turn granting
unfolding turn_of
turned_so = ap (λ (d : Decision). in_turn (verdict_shown shown d)) grants

answered_so : next first_rules (in_turn granting) (on.Answer 0) ≡ quiet_world ticketing [] first_packets
unfolding answer_of
answered_so = refl

granted_so : next first_rules (quiet_world ticketing [] first_packets) (on.Deliver 1) ≡ quiet_world asking [] (first_packets ++ take 1 more_packets)
unfolding deliver_of
granted_so = consumer_step (quiet_world ticketing [] first_packets) ticketing granted _ granted_read hears_grant

priced_so : next first_rules (quiet_world asking [] (first_packets ++ take 1 more_packets)) (on.Deliver 2) ≡ quiet_world asking (quoted ∷ []) (first_packets ++ take 2 more_packets)
unfolding deliver_of
priced_so = merchant_step (quiet_world asking [] (first_packets ++ take 1 more_packets)) (shop []) (price_request pass first_start) _ price_read asks_price

quoted_so : next first_rules (quiet_world asking (quoted ∷ []) (first_packets ++ take 2 more_packets)) (on.Deliver 3) ≡ quiet_world wanting (quoted ∷ []) (first_packets ++ take 3 more_packets)
unfolding deliver_of
quoted_so = consumer_step (quiet_world asking (quoted ∷ []) (first_packets ++ take 2 more_packets)) asking (quote_message session quote) _ quote_read hears_quote

goods_so : next first_rules (quiet_world wanting (quoted ∷ []) (first_packets ++ take 3 more_packets)) (on.Deliver 4) ≡ quiet_world wanting (quoted ∷ delivered ∷ []) (first_packets ++ more_packets)
unfolding deliver_of
goods_so = merchant_step (quiet_world wanting (quoted ∷ []) (first_packets ++ take 3 more_packets)) (shop (quoted ∷ [])) (goods_request pass first_start 0) _ goods_asked_read asks_goods

abbrev goods_there : World Buyer Shop
goods_there = quiet_world wanting (quoted ∷ delivered ∷ []) (first_packets ++ more_packets)

come_so : (es : List Event) → run first_rules first_world (goods_come ++ es) ≡ run first_rules goods_there es
come_so es =
    go begun bought (on.Buy buyer_id first_start) (drop 2 (goods_come ++ es)) buys_so ∙ go bought called (on.Deliver 0) (drop 3 (goods_come ++ es)) called_so ∙ go called (in_turn granting) (on.Turn 0) (drop 4 (goods_come ++ es)) turned_so
    ∙ go (in_turn granting) (quiet_world ticketing [] first_packets) (on.Answer 0) (drop 5 (goods_come ++ es)) answered_so
    ∙ go (quiet_world ticketing [] first_packets) (quiet_world asking [] (first_packets ++ take 1 more_packets)) (on.Deliver 1) (drop 6 (goods_come ++ es)) granted_so
    ∙ go (quiet_world asking [] (first_packets ++ take 1 more_packets)) (quiet_world asking (quoted ∷ []) (first_packets ++ take 2 more_packets)) (on.Deliver 2) (drop 7 (goods_come ++ es)) priced_so
    ∙ go (quiet_world asking (quoted ∷ []) (first_packets ++ take 2 more_packets)) (quiet_world wanting (quoted ∷ []) (first_packets ++ take 3 more_packets)) (on.Deliver 3) (drop 8 (goods_come ++ es)) quoted_so
    ∙ go (quiet_world wanting (quoted ∷ []) (first_packets ++ take 3 more_packets)) goods_there (on.Deliver 4) es goods_so

-- ---- until the order is paid

abbrev sent : List Packet
sent = first_packets ++ more_packets

ordered_so : next first_rules goods_there (on.Deliver 5) ≡ quiet_world ordering (quoted ∷ delivered ∷ []) (sent ++ take 1 last_packets)
unfolding deliver_of
ordered_so = consumer_step goods_there wanting goods _ goods_read hears_goods

endorsed_so : next first_rules (quiet_world ordering (quoted ∷ delivered ∷ []) (sent ++ take 1 last_packets)) (on.Deliver 6)
    ≡ quiet_world ordering (quoted ∷ delivered ∷ endorsed ∷ []) (sent ++ take 2 last_packets)
unfolding deliver_of
endorsed_so = merchant_step (quiet_world ordering (quoted ∷ delivered ∷ []) (sent ++ take 1 last_packets)) (shop (quoted ∷ delivered ∷ [])) (payment pass first_start order) _ payment_read asks_payment

abbrev presents : List Call → Option Turning → List Entry → List Origin → World Buyer Shop
presents calls turning entries origins = world_of ordering (quoted ∷ delivered ∷ endorsed ∷ []) (sent ++ take 2 last_packets) calls turning entries origins []

abbrev order_turn : TurnStage → Verdict → Turning
order_turn far v = record { call = 1; at = 3; verdict = v; stage = far }

abbrev paying : Verdict
paying = verdict_shown shown pays

abbrev presented_call : World Buyer Shop
presented_call = presents (ticket_call Answered ∷ order_call Waiting ∷ []) None first_entries []

presented_so : next first_rules (quiet_world ordering (quoted ∷ delivered ∷ endorsed ∷ []) (sent ++ take 2 last_packets)) (on.Deliver 7) ≡ presented_call
unfolding deliver_of
presented_so = refl

abbrev deciding : Verdict → World Buyer Shop
deciding v = presents (ticket_call Answered ∷ order_call InTurn ∷ []) (Some (order_turn turn.Decided v)) first_entries []

decided_so : next first_rules presented_call (on.Turn 1) ≡ deciding paying
unfolding turn_of
decided_so = ap (λ (d : Decision). deciding (verdict_shown shown d)) pays_order

abbrev writing : World Buyer Shop
writing = presents (ticket_call Answered ∷ order_call InTurn ∷ []) (Some (order_turn turn.Written paying)) first_entries []

written_so : next first_rules (deciding paying) (on.Write 1) ≡ writing
unfolding write_of
written_so = refl

abbrev opening : World Buyer Shop
opening = presents (ticket_call Answered ∷ order_call InTurn ∷ []) (Some (order_turn turn.Opened paying)) (first_entries ++ payment_entry ∷ []) (record { place = 3; call = 1 } ∷ [])

opened_so : next first_rules writing (on.Open 1) ≡ opening
unfolding open_of
opened_so = refl

abbrev told_world : World Buyer Shop
told_world = paid_world ordering (quoted ∷ delivered ∷ endorsed ∷ []) (sent ++ take 3 last_packets)

told_so : next first_rules opening (on.Answer 1) ≡ told_world
unfolding answer_of
told_so = refl

abbrev passed_world : World Buyer Shop
passed_world = paid_world ordering (quoted ∷ delivered ∷ endorsed ∷ settled_item ∷ []) (sent ++ last_packets)

passed_so : next first_rules told_world (on.Deliver 8) ≡ passed_world
unfolding deliver_of
passed_so = merchant_step told_world (shop (quoted ∷ delivered ∷ endorsed ∷ [])) resulted _ resulted_read hears_house

abbrev ended_buyer : Buyer
ended_buyer = buys.after ordering (Ok (deed.Ends 1 signed (end_of receipt sealed)))

abbrev heard_world : World Buyer Shop
heard_world = paid_world ended_buyer (quoted ∷ delivered ∷ endorsed ∷ settled_item ∷ []) (sent ++ last_packets)

heard_so : next first_rules passed_world (on.Deliver 9) ≡ heard_world
unfolding deliver_of
heard_so = consumer_step passed_world ordering (message.Passed 1 part) _ passed_read hears_result

paid_so : (es : List Event) → run first_rules goods_there (order_is_paid ++ es) ≡ run first_rules passed_world es
paid_so es =
    go goods_there (quiet_world ordering (quoted ∷ delivered ∷ []) (sent ++ take 1 last_packets)) (on.Deliver 5) (drop 1 (order_is_paid ++ es)) ordered_so
    ∙ go (quiet_world ordering (quoted ∷ delivered ∷ []) (sent ++ take 1 last_packets)) (quiet_world ordering (quoted ∷ delivered ∷ endorsed ∷ []) (sent ++ take 2 last_packets)) (on.Deliver 6) (drop 2 (order_is_paid ++ es)) endorsed_so
    ∙ go (quiet_world ordering (quoted ∷ delivered ∷ endorsed ∷ []) (sent ++ take 2 last_packets)) presented_call (on.Deliver 7) (drop 3 (order_is_paid ++ es)) presented_so
    ∙ go presented_call (deciding paying) (on.Turn 1) (drop 4 (order_is_paid ++ es)) decided_so ∙ go (deciding paying) writing (on.Write 1) (drop 5 (order_is_paid ++ es)) written_so ∙ go writing opening (on.Open 1) (drop 6 (order_is_paid ++ es)) opened_so
    ∙ go opening told_world (on.Answer 1) (drop 7 (order_is_paid ++ es)) told_so ∙ go told_world passed_world (on.Deliver 8) es passed_so

-- ---- the status in the place of the result

abbrev query_call : CallPhase → Call
query_call phase = record { packet = 10; moment = 1000; phase = phase }

abbrev asked_packets : List Packet
asked_packets = (sent ++ last_packets) ++ buyers to.Server (status_query first_wallet epoid 0) ∷ []

abbrev told : Message
told = message.Status (seal_of (replicate 32 0x44) (codes "stat") (text_bytes text))

abbrev told_packets : List Packet
told_packets = asked_packets ++ packet (by.Server 2 4) (to.Consumer buyer_id) told ∷ []

abbrev all_items : List Item
all_items = quoted ∷ delivered ∷ endorsed ∷ settled_item ∷ []

abbrev asking_world : Buyer → List Packet → List Call → Option Turning → World Buyer Shop
asking_world b packets queries turning =
    world_of b all_items packets (ticket_call Answered ∷ order_call Answered ∷ queries) turning paid_entries (record { place = 3; call = 1 } ∷ [])
    (record { entry = payment_entry; place = 3 } ∷ [])

waited_so : next first_rules passed_world (on.QuietConsumer buyer_id 1) ≡ asking_world ordering asked_packets [] None
unfolding quiet_consumer_of
waited_so = ap (λ (row : Result Deed Reason). consumer_goes passed_world 0 buyer_id (buyer_goes ordering row)) waits

query_there : next first_rules (asking_world ordering asked_packets [] None) (on.Deliver 10) ≡ asking_world ordering asked_packets (query_call Waiting ∷ []) None
unfolding deliver_of
query_there = refl

abbrev querying : Verdict → World Buyer Shop
querying v = asking_world ordering asked_packets (query_call InTurn ∷ []) (Some (record { call = 2; at = 4; verdict = v; stage = turn.Decided }))

queried_so : next first_rules (asking_world ordering asked_packets (query_call Waiting ∷ []) None) (on.Turn 2) ≡ querying (verdict_shown shown tells)
unfolding turn_of
queried_so = ap (λ (d : Decision). querying (verdict_shown shown d)) tells_status

abbrev status_world : World Buyer Shop
status_world = asking_world ordering told_packets (query_call Answered ∷ []) None

status_so : next first_rules (querying (verdict_shown shown tells)) (on.Answer 2) ≡ status_world
unfolding answer_of
status_so = refl

told_read : reads told
told_read =
    message_reads_back told
    (reply_is_message (record { house = replicate 32 0x11; first = replicate 32 0x44; second = NO_KEY }) (Status 4 epoid (Some receipt)) (omega arith, is_epoid, is_receipt)).0

abbrev status_heard : World Buyer Shop
status_heard = asking_world ended_buyer told_packets (query_call Answered ∷ []) None

status_heard_so : next first_rules status_world (on.Deliver 11) ≡ status_heard
unfolding deliver_of
status_heard_so = consumer_step status_world ordering told _ told_read hears_status

asked_so : (es : List Event) → run first_rules passed_world (status_is_asked ++ es) ≡ run first_rules status_world es
asked_so es =
    go passed_world (asking_world ordering asked_packets [] None) (on.QuietConsumer buyer_id 1) (drop 1 (status_is_asked ++ es)) waited_so
    ∙ go (asking_world ordering asked_packets [] None) (asking_world ordering asked_packets (query_call Waiting ∷ []) None) (on.Deliver 10) (drop 2 (status_is_asked ++ es)) query_there
    ∙ go (asking_world ordering asked_packets (query_call Waiting ∷ []) None) (querying (verdict_shown shown tells)) (on.Turn 2) (drop 3 (status_is_asked ++ es)) queried_so
    ∙ go (querying (verdict_shown shown tells)) status_world (on.Answer 2) es status_so

-- ---- the whole

come_is : behind goods_come ≡ goods_there
come_is = come_so []

passed_is : behind (goods_come ++ order_is_paid) ≡ passed_world
passed_is = come_so order_is_paid ∙ paid_so []

heard_is : behind ((goods_come ++ order_is_paid) ++ on.Deliver 9 ∷ []) ≡ heard_world
heard_is = come_so (order_is_paid ++ on.Deliver 9 ∷ []) ∙ paid_so (on.Deliver 9 ∷ []) ∙ heard_so

status_is : behind ((goods_come ++ order_is_paid) ++ status_is_asked) ≡ status_world
status_is = come_so (order_is_paid ++ status_is_asked) ∙ paid_so status_is_asked ∙ asked_so []

told_is : behind (((goods_come ++ order_is_paid) ++ status_is_asked) ++ on.Deliver 11 ∷ []) ≡ status_heard
told_is = come_so ((order_is_paid ++ status_is_asked) ++ on.Deliver 11 ∷ []) ∙ paid_so (status_is_asked ++ on.Deliver 11 ∷ []) ∙ asked_so (on.Deliver 11 ∷ []) ∙ status_heard_so

-- the key opens what is held to no bytes
opens_to_none : text_in first_key (codes "good") sealed ≡ Some []
opens_to_none = (text_in_opens first_key (codes "good") sealed []).1 refl

ends_paid : (phase_in (purchase_of ended_buyer 1) ≡ Some (phase.Paid 0)) × (goods_in (purchase_of ended_buyer 1) ≡ Some [])
ends_paid =
    let stage_is : stage_ended receipt sealed ≡ stage.Paid first_key = ap (stage_opened first_key) opens_to_none in
    (ap (λ (s : Stage). Some (phase_of s sealed)) stage_is ∙ ap (λ (n : ℕ). Some (phase.Paid (n - SEAL))) sealed_long, ap (λ (s : Stage). goods_of s sealed) stage_is ∙ opens_to_none)

abbrev wanted_purchase : Purchase
wanted_purchase = record { start = first_start; stage = stage.Wanted pass price None; held = [] }

kept : OrderIsKept (order_bytes order)
kept = record {
  buyer = wanting;
  message = goods;
  keeps = record { transaction = 1; purchase = wanted_purchase; kept = order; part = sealed; whom = to.Merchant seller_id; sent = payment pass first_start order; keeps = hears_goods; known = refl; bytes = refl; all = refl };
  holds = ap (λ (w : World Buyer Shop). slice_get w.consumers 0) come_is;
  packet = sellers (to.Consumer buyer_id) goods;
  delivered = ap (λ (w : World Buyer Shop). slice_get w.packets 5) come_is;
  read = goods_read;
}

abbrev endorsed_packet : Packet
endorsed_packet = sellers to.Server (endorsed_message first_stall epoid (order_bytes order))

-- in whichever world that is one of these
asks_order : (w v : World Buyer Shop) → w ≡ v → slice_get v.calls 1 ≡ Some (order_call Answered) → slice_get v.packets 7 ≡ Some endorsed_packet → Asks w 1 endorsed_packet 1000
asks_order w v same call of = record {
  call = order_call Answered;
  is = ap (λ (x : World Buyer Shop). slice_get x.calls 1) same ∙ call;
  of = ap (λ (x : World Buyer Shop). slice_get x.packets 7) same ∙ of;
  at = refl;
}

stands_in : (w v : World Buyer Shop) → w ≡ v → slice_get v.calls 1 ≡ Some (order_call Answered) → slice_get v.packets 7 ≡ Some endorsed_packet → v.durable ≡ paid_entries
    → v.origins ≡ record { place = 3; call = 1 } ∷ [] → PaymentStands w
stands_in w v same call of durable origins = record {
  asked = endorsed_packet;
  asks = asks_order w v same call of;
  maker = refl;
  origin = ap (λ (x : World Buyer Shop). x.origins) same ∙ origins;
  entry = payment_entry;
  stands = ap (λ (x : World Buyer Shop). slice_get x.durable 3) same ∙ ap (λ (es : List Entry). slice_get es 3) durable;
  pays = refl;
}

by_result : EndsPaid (goods_come ++ order_is_paid) 9
by_result = record {
  receipt = signed;
  ended = record {
    buyer = ordering;
    packet = sellers (to.Consumer buyer_id) (message.Passed 1 part);
    message = message.Passed 1 part;
    how = end_of receipt sealed;
    is = record {
      place = 0;
      first = ap (λ (w : World Buyer Shop). consumer_at first_rules w buyer_id) passed_is;
      stands = ap (λ (w : World Buyer Shop). slice_get w.consumers 0) passed_is;
    };
    there = ap (λ (w : World Buyer Shop). slice_get w.packets 9) passed_is;
    addressed = refl;
    read = passed_read;
    ends = hears_result;
  };
  told = record {
    whom = buyer_id;
    place = 8;
    call = 1;
    at = 3;
    made = packet (by.Server 1 3) (to.Merchant seller_id) resulted;
    packet = endorsed_packet;
    moment = 1000;
    there = ap (λ (w : World Buyer Shop). slice_get w.packets 8) heard_is;
    maker = refl;
    asks = asks_order _ heard_world heard_is refl refl;
    tells = subst (λ (es : List Entry). TellsBy (verdict es first_head 8 ORDER_REQUEST (endorsed_bytes request) 1000)) (sym (ap (λ (w : World Buyer Shop). take 3 w.durable) heard_is))
        (subst TellsBy (sym pays_order) (refl, refl, signed_is));
  };
  payment = stands_in _ heard_world heard_is refl refl refl refl;
  buyer = ended_buyer;
  now = ap (λ (w : World Buyer Shop). slice_get w.consumers 0) heard_is;
  paid = ends_paid.0;
  has = ends_paid.1;
}
  where
    TellsBy : Decision → Type 0
    TellsBy d = TellsReceipt (replicate 32 0x44) buyer_id (endorsed_bytes request) d.keys d.reply signed

by_status : EndsPaid ((goods_come ++ order_is_paid) ++ status_is_asked) 11
by_status = record {
  receipt = signed;
  ended = record {
    buyer = ordering;
    packet = packet (by.Server 2 4) (to.Consumer buyer_id) told;
    message = told;
    how = end_of receipt sealed;
    is = record {
      place = 0;
      first = ap (λ (w : World Buyer Shop). consumer_at first_rules w buyer_id) status_is;
      stands = ap (λ (w : World Buyer Shop). slice_get w.consumers 0) status_is;
    };
    there = ap (λ (w : World Buyer Shop). slice_get w.packets 11) status_is;
    addressed = refl;
    read = told_read;
    ends = hears_status;
  };
  told = record {
    whom = buyer_id;
    place = 11;
    call = 2;
    at = 4;
    made = packet (by.Server 2 4) (to.Consumer buyer_id) told;
    packet = buyers to.Server (status_query first_wallet epoid 0);
    moment = 1000;
    there = ap (λ (w : World Buyer Shop). slice_get w.packets 11) told_is;
    maker = refl;
    asks = record {
      call = query_call Answered;
      is = ap (λ (w : World Buyer Shop). slice_get w.calls 2) told_is;
      of = ap (λ (w : World Buyer Shop). slice_get w.packets 10) told_is;
      at = refl;
    };
    tells = subst (λ (es : List Entry). TellsBy (verdict es first_head 8 STATUS_REQUEST (query_bytes query) 1000)) (sym (ap (λ (w : World Buyer Shop). take 4 w.durable) told_is))
        (subst TellsBy (sym tells_status) ((query, query_reads_back query is_query, refl), refl, (text, text_is, refl)));
  };
  payment = stands_in _ status_heard told_is refl refl refl refl;
  buyer = ended_buyer;
  now = ap (λ (w : World Buyer Shop). slice_get w.consumers 0) told_is;
  paid = ends_paid.0;
  has = ends_paid.1;
}
  where
    TellsBy : Decision → Type 0
    TellsBy d = TellsReceipt (replicate 32 0x44) buyer_id (query_bytes query) d.keys d.reply signed

reported : IsReported (behind (((goods_come ++ order_is_paid) ++ status_is_asked) ++ on.Deliver 11 ∷ []))
reported = record {
  packets = ap (λ (w : World Buyer Shop). length w.packets) told_is;
  commits = ap (λ (w : World Buyer Shop). length w.durable) told_is;
  payer = ap (λ (w : World Buyer Shop). balance w.durable (record { 0 = 1 })) told_is;
  payee = ap (λ (w : World Buyer Shop). balance w.durable (record { 0 = 2 })) told_is;
}

-- ---- the set-up

legal_none : Legal []
legal_none = record { each = λ k within. absurd (omega (arith, within)) }

setup_legal : StaysLegal → Legal first_entries
setup_legal stays =
    stays (take 2 first_entries) _ (stays (take 1 first_entries) _ (stays [] _ legal_none buyer_next) seller_next) fund_next
  where
    buyer_next : LegalAfter [] (Enrol buyer_id CONSUMER (record { 0 = 1 }) 7 (replicate 32 0x44))
    buyer_next = (λ no. absurd cc, λ no. absurd cc, inl refl, refl, refl)

    seller_next : LegalAfter (take 1 first_entries) (Enrol seller_id MERCHANT (record { 0 = 2 }) 0 (replicate 32 0x55))
    seller_next = (λ no. absurd cc, λ no. absurd cc, inr refl, refl, refl)

    fund_next : LegalAfter (take 2 first_entries) (Fund (record { 0 = 1 }) 500 (replicate 16 0))
    fund_next = (refl, omega arith, omega arith, refl, omega arith)

is_setup : StaysLegal → IsSetUp first_world
is_setup stays = record { legal = setup_legal stays; same = refl; no_packets = refl; no_calls = refl; no_turn = refl; no_origins = refl; none_acknowledged = refl }

are_enrolled : MerchantsAreEnrolled first_world
are_enrolled zero s at =
    let same : shop [] ≡ s = same_some (shop []) s at in
    subst (λ (x : Shop). IsEnrolled first_entries x.stall × AllFollow x) same (record { party = merchant_party; found = refl; key = refl; id = omega arith; acct = omega arith }, refl)
are_enrolled (suc i) s at = absurd cc

are_so : ConsumersAreSo first_world
are_so zero b at = subst AllSo (same_some (new_buyer first_wallet) b at) tt
are_so (suc i) b at = absurd cc

-- ---- the endorsement

merchant_is : (i : ℕ) (m : Shop) → slice_get first_world.merchants i ≡ Some m → m.stall ≡ first_stall
merchant_is zero m at = ap (λ (x : Shop). x.stall) (sym (same_some (shop []) m at))
merchant_is (suc i) m at = absurd cc

-- an endorsement of whose bytes the packet is, under the same stall's key, is the one that was endorsed
endorsed_as : (stall : Stall) (e : Endorsement) → stall ≡ first_stall → IsEndorsement e
    → endorsed_packet.body ≡ body_bytes (message.Endorsed stall.id (seal_of stall.key (codes "endo") (endorsement_bytes e))) → e ≡ endorsement
endorsed_as stall e its within same =
    let key : List ℕ = first_stall.key in
    let bytes : List ℕ = endorsement_bytes e in
    let theirs : EndorsedOrder = record { merchant = first_stall.id; sealed = seal_of key (codes "endo") bytes } in
    let body : endorsed_bytes request ≡ endorsed_bytes theirs =
    same ∙ ap (λ (x : Stall). body_bytes (message.Endorsed x.id (seal_of x.key (codes "endo") bytes))) its in
    let read : (let first : Result EndorsedOrder ℕ = Ok request in first ≡ Ok theirs) =
    sym (endorsed_reads_back request (record { merchant = omega arith; sealed = request_short })) ∙ ap endorsed_of body
    ∙ endorsed_reads_back theirs (record { merchant = omega arith; sealed = sealed_short key e within }) in
    let seals : seal_of key (codes "endo") (endorsement_bytes endorsement) ≡ seal_of key (codes "endo") bytes = ap (λ (o : EndorsedOrder). o.sealed) (ok_is read) in
    one_endorsement e endorsement within is_endorsement
    (opens_once key (codes "endo") (seal_of key (codes "endo") bytes) bytes (endorsement_bytes endorsement) refl (sym seals))
  where
    ok_is : {A E : Type 0} {a b : A} → (let first : Result A E = Ok a in first ≡ Ok b) → a ≡ b
    ok_is e = cc

order_is_endorsed : StaysLegal → OrderIsEndorsed (order_bytes order)
unfolding key_of_goods
order_is_endorsed stays =
    let there : slice_get (behind (goods_come ++ order_is_paid)).packets 7 ≡ Some endorsed_packet = ap (λ (w : World Buyer Shop). slice_get w.packets 7) passed_is in
    let from : SentFrom first_world seller_id endorsed_packet =
    all_at (λ (made : Packet). SentBy first_world made made.maker) (behind (goods_come ++ order_is_paid)).packets 7 endorsed_packet there
    (all_sent first_head 8 first_world (is_setup stays) are_enrolled (goods_come ++ order_is_paid)) in
    let endorses : Endorses from.shop from.whom from.message = sent_endorsement from.shop from.whom from.message from.so (sym from.kind) in
    let stall : from.shop.stall ≡ first_stall = from.stall ∙ merchant_is from.place from.merchant from.of in
    let within : IsEndorsement endorses.endorsement = endorses.within (subst (λ (x : Stall). x.acct.0 < 2 ^ 32) (sym stall) (omega arith)) in
    let is : endorses.endorsement ≡ endorsement = endorsed_as from.shop.stall endorses.endorsement stall within (from.body ∙ ap body_bytes endorses.sealed) in
    record {
      packet = endorsed_packet;
      sent = there;
      of = key_of_goods first_world seller_id endorsed_packet from endorses first_key (sym (ap (λ (e : Endorsement). e.key) is));
      same = sym endorses.of_order ∙ ap (λ (e : Endorsement). e.order) is;
    }

pub premises_are_met : StaysLegal → PremisesAreMet
premises_are_met stays = ((inl refl, omega arith), is_setup stays, are_enrolled, are_so, (inl tt, (inl tt, (inr tt, tt))), (order_bytes order, kept, order_is_endorsed stays), by_result, by_status, reported)
