-- Whom a merchant serves: the consumer whose ticket a message shows.
use Rattle.std.proofs.Common.{◌≡◌, inl, inr, ℕ, ◌==◌, ◌&&◌, List, length, codes, Option, Some, None, IfSome, Result, Ok, Err, refl, sym, ap, subst, ◌∙◌}
use Rattle.std.specs.Prelude.{◌%◌, nat_le, nat_lt}
use Rattle.std.specs.Str.{bytes_eq}
use Rattle.sha2.specs.Sha256.{sha256}
use Rattle.nb_units.specs.declared.epoid.Epoid.{Epoid}
use Rattle.nb_units.specs.declared.ids.PartyId.{PartyId}
use Rattle.nb_body.specs.declared.price_request.PriceRequest.{PriceRequest}
use Rattle.nb_body.specs.declared.goods_request.GoodsRequest.{GoodsRequest}
use Rattle.nb_body.specs.Reading.{price_request_of, goods_request_of, payment_request_of}
use Rattle.nb_goods.specs.declared.limits.TheConstants.{MAX_GOODS, PART_BYTES}
use Rattle.nb_goods.specs.Goods.{sealed_goods}
use Rattle.nb_price.specs.Products.{Product}
use Rattle.nb_groups.specs.Offers.{Tariff}
use Rattle.nb_msgs.specs.declared.message.Message.{Message}
use Rattle.nb_msgs.specs.declared.message.Message.TheVariants as message
use Rattle.nb_msgs.specs.declared.node.Reason.{Reason}
use Rattle.nb_msgs.specs.declared.node.Reason.TheVariants as reason
use Rattle.nb_msgs.specs.declared.node.To.TheVariants as to
use Rattle.nb_stall.specs.declared.purchase.Purchase.{Purchase}
use Rattle.nb_stall.specs.declared.item.Item.{Item}
use Rattle.nb_stall.specs.declared.item.Item.TheVariants as item
use Rattle.nb_stall.specs.declared.sale.Progress.{Progress}
use Rattle.nb_stall.specs.declared.sale.Progress.TheVariants as progress
use Rattle.nb_stall.specs.declared.sale.Sale.{Sale}
use Rattle.nb_stall.specs.Reading.{purchase_of}
use Rattle.nb_stall.specs.Sales.{sale_in, epoid_in, next_serial}
use Rattle.nb_msgs.specs.Tests.{field, found, opened}
use Rattle.nb_stall.specs.Tests.{ticket_in, request_digest}
use Rattle.nb_stall.specs.Messages.{key_of, quote_message, goods_message, endorsed_message}
use Rattle.nb_merchant.specs.declared.answer.Answer.{Answer}
use Rattle.nb_merchant.specs.Shop.{Shop, goods_in, sealed_for}
use Rattle.nb_merchant.specs.Table as table
use Rattle.nb_merchant.specs.Laws.{IsServed, AskerIsServed}
use Rattle.nb_merchant.proofs.Following.{inside, answer_is}

-- no result is kept
abbrev pub IsNoResult : Item → Type 0
IsNoResult (item.Settled p part) = ⊥
IsNoResult other = Unit {0}

abbrev pub Given : PartyId → Answer → Type 0
Given consumer a = IsServed consumer a × IfSome a.keep IsNoResult

-- an answer that keeps an item of this consumer and sends to it, one that keeps none and sends to it, one to the house
keeps_for : (p : Purchase) (keep : Item) (m : Message) → purchase_of keep ≡ p → IsNoResult keep → Given p.consumer (record { keep = Some keep; to = to.Consumer p.consumer; message = m })
keeps_for p keep m is none = ((ap (λ (q : Purchase). q.consumer) is, inl refl), none)

sends_to : (consumer : PartyId) (m : Message) → Given consumer (record { keep = None; to = to.Consumer consumer; message = m })
sends_to consumer m = ((tt, inl refl), tt)

hands_in : (p : Purchase) (order : List ℕ) (m : Message) → Given p.consumer (record { keep = Some (item.Endorsed p order); to = to.Server; message = m })
hands_in p order m = ((refl, inr refl), tt)

hands_in_again : (consumer : PartyId) (m : Message) → Given consumer (record { keep = None; to = to.Server; message = m })
hands_in_again consumer m = ((tt, inr refl), tt)

quoted_served : (products : List Product) (offers : Option Tariff) (session : List ℕ) (consumer : PartyId) (r : PriceRequest) (moment : ℕ) (o : Option Sale) (a : Answer)
    → table.quoted products offers session consumer r moment o ≡ Ok a → Given consumer a
unfolding table.first_quote table.quote_again
quoted_served products offers session consumer r moment None a e =
    let price = inside (table.first_price products offers r.product consumer r.request moment) _ a e in
    let p = table.purchase_by consumer r.transaction in
    subst (Given consumer) (answer_is _ a price.2)
    (keeps_for p (item.Quoted p r.product price.0 (request_digest r)) (quote_message session (record { transaction = r.transaction; product = r.product; price = price.0 })) refl tt)
quoted_served products offers session consumer r moment (Some sale) a e =
    let same = inside (field 1 (bytes_eq (request_digest r) sale.request)) _ a e in
    subst (Given consumer) (answer_is _ a same.2) (sends_to consumer (quote_message session (record { transaction = r.transaction; product = sale.product; price = sale.price })))

delivered_served : (shop : Shop) (session : List ℕ) (consumer : PartyId) (r : GoodsRequest) (sale : Sale) (moment : ℕ) (o : Option Epoid) (a : Answer)
    → table.delivered shop session consumer r sale moment o ≡ Ok a → Given consumer a
unfolding table.first_part table.part_again
delivered_served shop session consumer r sale moment None a e =
    let goods = goods_in shop.products sale.product in
    let front = inside (field 1 (r.place == 0)) _ a e in
    let short = inside (field 2 (nat_le (length goods) MAX_GOODS)) _ a front.2 in
    let serial = inside (table.left_serial (next_serial shop.items)) _ a short.2 in
    let p = table.purchase_by consumer r.transaction in
    let epoid = table.epoid_for shop.stall moment serial.0 in
    let sealed = sealed_goods (key_of shop.stall serial.0) goods in
    subst (Given consumer) (answer_is _ a serial.2) (keeps_for p (item.Delivered p epoid (sha256 sealed)) (goods_message session r.transaction epoid sealed 0) refl tt)
delivered_served shop session consumer r sale moment (Some epoid) a e =
    let key = key_of shop.stall epoid.serial in
    let goods = goods_in shop.products sale.product in
    let starts = inside (field 1 (r.place % PART_BYTES == 0 && nat_lt r.place (length (sealed_goods key goods)))) _ a e in
    subst (Given consumer) (answer_is _ a starts.2) (sends_to consumer (goods_message session r.transaction epoid (sealed_goods key goods) r.place))

ordered_served : (shop : Shop) (p : Purchase) (sale : Sale) (order : List ℕ) (before : Progress) (a : Answer) → table.ordered shop p sale order before ≡ Ok a → Given p.consumer a
unfolding table.first_order table.order_again table.order_settled
ordered_served shop p sale order progress.Quoted a e = absurd cc
ordered_served shop p sale order (progress.Delivered epoid) a e =
    let taken = inside (table.order_taken shop.stall p sale epoid (sha256 (sealed_for shop.stall shop.products epoid.serial sale.product)) order) _ a e in
    subst (Given p.consumer) (answer_is _ a taken.2) (hands_in p order (endorsed_message shop.stall epoid order))
ordered_served shop p sale order (progress.Endorsed epoid kept) a e =
    let same = inside (field 1 (bytes_eq order kept)) _ a e in
    subst (Given p.consumer) (answer_is _ a same.2) (hands_in_again p.consumer (endorsed_message shop.stall epoid kept))
ordered_served shop p sale order (progress.Settled epoid kept part) a e =
    let same = inside (field 1 (bytes_eq order kept)) _ a e in
    subst (Given p.consumer) (answer_is _ a same.2) (sends_to p.consumer (message.Passed p.transaction part))

-- a ticket opens, and who it is of is served
abbrev TicketServed : Shop → List ℕ → ℕ → Answer → Type 0
TicketServed shop ticket moment a = (consumer : PartyId) × (table.asker_of (ticket_in shop.stall ticket moment) ≡ Some consumer) × Given consumer a

price_served : (shop : Shop) (ticket sealed : List ℕ) (moment : ℕ) (a : Answer) → table.price_asked shop ticket sealed moment ≡ Ok a → TicketServed shop ticket moment a
unfolding table.price_asked
price_served shop ticket sealed moment a e =
    let t = inside (ticket_in shop.stall ticket moment) _ a e in
    let r = inside (opened price_request_of t.0.session (codes "m001") sealed) _ a t.2 in
    (t.0.consumer, ap table.asker_of t.1, quoted_served shop.products shop.offers t.0.session t.0.consumer r.0 moment (sale_in shop.items (table.purchase_by t.0.consumer r.0.transaction)) a r.2)

goods_served : (shop : Shop) (ticket sealed : List ℕ) (moment : ℕ) (a : Answer) → table.goods_asked shop ticket sealed moment ≡ Ok a → TicketServed shop ticket moment a
unfolding table.goods_asked
goods_served shop ticket sealed moment a e =
    let t = inside (ticket_in shop.stall ticket moment) _ a e in
    let r = inside (opened goods_request_of t.0.session (codes "m003") sealed) _ a t.2 in
    let sale = inside (found reason.Unknown (sale_in shop.items (table.purchase_by t.0.consumer r.0.transaction))) _ a r.2 in
    (t.0.consumer, ap table.asker_of t.1, delivered_served shop t.0.session t.0.consumer r.0 sale.0 moment (epoid_in sale.0.progress) a sale.2)

order_served : (shop : Shop) (ticket sealed : List ℕ) (moment : ℕ) (a : Answer) → table.order_sent shop ticket sealed moment ≡ Ok a → TicketServed shop ticket moment a
unfolding table.order_sent
order_served shop ticket sealed moment a e =
    let t = inside (ticket_in shop.stall ticket moment) _ a e in
    let r = inside (opened payment_request_of t.0.session (codes "m005") sealed) _ a t.2 in
    let p = table.purchase_by t.0.consumer r.0.transaction in
    let sale = inside (found reason.Unknown (sale_in shop.items p)) _ a r.2 in
    (t.0.consumer, ap table.asker_of t.1, ordered_served shop p sale.0 r.0.order sale.0.progress a sale.2)

pub heard_served : (shop : Shop) (m : Message) (moment : ℕ) (a : Answer) → table.heard shop m moment ≡ Ok a → (consumer : PartyId) × (table.asker_in shop m moment ≡ Some consumer) × Given consumer a
heard_served shop (message.PriceAsk ticket sealed) moment a e = price_served shop ticket sealed moment a e
heard_served shop (message.GoodsAsk ticket sealed) moment a e = goods_served shop ticket sealed moment a e
heard_served shop (message.Order ticket sealed) moment a e = order_served shop ticket sealed moment a e
heard_served shop other moment a e = absurd cc

-- where nobody's ticket is shown it is ignored
nobody : (shop : Shop) (m : Message) (moment : ℕ) → table.asker_in shop m moment ≡ None → (row : Result Answer Reason) → table.heard shop m moment ≡ row → (why : Reason) × (row ≡ Err why)
nobody shop m moment none (Err why) is = (why, refl)
nobody shop m moment none (Ok a) is =
    let served = heard_served shop m moment a is in
    let both : (let o : Option PartyId = None in o ≡ Some served.0) = sym none ∙ served.1 in
    absurd cc

pub asker_is_served : AskerIsServed
asker_is_served shop m moment = (λ a e. let served = heard_served shop m moment a e in (served.0, served.1, served.2.0), λ none. nobody shop m moment none (table.heard shop m moment) refl)
