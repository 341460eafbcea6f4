-- What rows do, from what they gave.
use Rattle.std.proofs.Common.{◌≡◌, ℕ, Bool, true, false, cond, ◌==◌, ◌&&◌, List, [], ◌∷◌, ◌++◌, length, codes, Option, Some, None, IfSome, Result, Ok, Err, IfOk, refl, sym, ap, subst, ◌∙◌, append-nil}
use Rattle.std.proofs.lemmas.Bool.{eq-eqb}
use Rattle.std.specs.Prelude.{◌%◌, is_some, nat_le, nat_lt}
use Rattle.std.proofs.lemmas.Slice.Eq.{bytes_eq-Decides}
use Rattle.std.specs.Result.{is_ok}
use Rattle.std.specs.Str.{bytes_eq}
use Rattle.sha2.specs.Sha256.{sha256}
use Rattle.nb_units.specs.Fields.{◌>>=◌}
use Rattle.nb_units.specs.declared.epoid.Epoid.{Epoid}
use Rattle.nb_units.specs.declared.ids.PartyId.{PartyId}
use Rattle.nb_units.specs.declared.ids.Price.{Price}
use Rattle.nb_body.specs.declared.price_request.PriceRequest.{PriceRequest}
use Rattle.nb_body.specs.declared.goods_request.GoodsRequest.{GoodsRequest}
use Rattle.nb_body.specs.Reading.{price_request_of, goods_request_of, payment_request_of}
use Rattle.nb_endorse.specs.Reading.{signed_of}
use Rattle.nb_endorse.specs.declared.receipt.Receipt.{Receipt}
use Rattle.nb_goods.specs.declared.limits.TheConstants.{MAX_GOODS, PART_BYTES}
use Rattle.nb_goods.specs.Goods.{sealed_goods}
use Rattle.nb_price.specs.Products.{Product, product_in}
use Rattle.nb_groups.specs.Offers.{Tariff}
use Rattle.nb_groups.specs.Quote.{offers_shown, quoted_of}
use Rattle.nb_msgs.specs.declared.message.Message.{Message}
use Rattle.nb_msgs.specs.declared.message.Message.TheVariants as message
use Rattle.nb_msgs.specs.declared.node.Reason.{Reason}
use Rattle.nb_msgs.specs.declared.node.Reason.TheVariants as reason
use Rattle.nb_msgs.specs.declared.node.To.TheVariants as to
use Rattle.nb_stall.specs.declared.limits.TheConstants.{LAST_SERIAL}
use Rattle.nb_stall.specs.declared.purchase.Purchase.{Purchase}
use Rattle.nb_stall.specs.declared.item.Item.{Item}
use Rattle.nb_stall.specs.declared.item.Item.TheVariants as item
use Rattle.nb_stall.specs.declared.sale.Progress.{Progress}
use Rattle.nb_stall.specs.declared.sale.Progress.TheVariants as progress
use Rattle.nb_stall.specs.declared.sale.Sale.{Sale}
use Rattle.nb_merchant.specs.declared.answer.Answer.{Answer}
use Rattle.nb_merchant.specs.declared.answer.Planned.{Planned}
use Rattle.nb_merchant.specs.declared.answer.Halt.{Halt}
use Rattle.nb_merchant.specs.Telling.{Plans}
use Rattle.nb_stall.specs.Reading.{purchase_of}
use Rattle.nb_merchant.specs.Sending.{SentSo, QuotesKept, DeliversKept, EndorsesKept, PassesKept}
use Rattle.nb_stall.specs.Messages.{key_of, quote_message, goods_message, endorsed_message}
use Rattle.nb_merchant.proofs.Keeping.{sale_from_more}
use Rattle.nb_stall.proofs.Noting.{same_purchase}
use Rattle.nb_stall.specs.Sales.{moved, progressed, sale_in, epoid_in, deliveries_in, sold_as, next_serial}
use Rattle.nb_merchant.specs.Shop.{Shop, goods_in, sealed_for}
use Rattle.nb_msgs.specs.Tests.{field, found, opened}
use Rattle.nb_stall.specs.Tests.{ticket_in, request_digest}
use Rattle.nb_merchant.specs.Table as table
use Rattle.nb_merchant.specs.Keeping.{delivery_follows, order_follows, result_follows, of_sale, follows}

-- ---- what came before an answer

pub inside : {A B E : Type 0} (r : Result A E) (next : A → Result B E) (y : B) → (r >>= next) ≡ Ok y → (x : A) × (r ≡ Ok x) × (next x ≡ Ok y)
inside (Ok x) next y e = (x, refl, e)
inside (Err why) next y e = absurd cc

pub holds : (n : ℕ) (test : Bool) (done : Unit {0}) → field n test ≡ Ok done → test ≡ true
holds n true done e = refl
holds n false done e = absurd cc

was_there : {A : Type 0} (why : Reason) (o : Option A) (x : A) → found why o ≡ Ok x → o ≡ Some x
was_there why (Some y) x e = cc
was_there why None x e = absurd cc

pub answer_is : (a b : Answer) → (let first : Result Answer Reason = Ok a in first ≡ Ok b) → a ≡ b
answer_is a b e = cc

bytes_same : (xs : List ℕ) → bytes_eq xs xs ≡ true
bytes_same xs = (bytes_eq-Decides xs xs).1 refl

all_true : {a b c d : Bool} → a ≡ true → b ≡ true → c ≡ true → d ≡ true → (a && b && c && d) ≡ true
all_true first second third last = rw (first, second, third, last) refl

of_there : (test : Sale → Bool) (o : Option Sale) (sale : Sale) → o ≡ Some sale → test sale ≡ true → of_sale test o ≡ true
of_there test o sale there is = rw there is

-- ---- what is kept may stand next, and what is sent is as it is kept

abbrev pub Follows : Shop → Answer → Type 0
Follows shop a = IfSome a.keep (λ x. follows shop x ≡ true) × SentSo (table.after shop (Ok a)) a.to a.message

-- the sale behind an item of it
behind_item : (shop : Shop) (x : Item) (o : Option Sale) → sale_in shop.items (purchase_of x) ≡ o → sale_in (shop.items ++ x ∷ []) (purchase_of x) ≡ moved o x
behind_item shop x o there =
    sale_from_more (purchase_of x) None shop.items x ∙ ap (λ (b : Bool). cond b (moved (sale_in shop.items (purchase_of x)) x) (sale_in shop.items (purchase_of x))) (same_purchase (purchase_of x))
    ∙ ap (λ (s : Option Sale). moved s x) there

-- the sale behind no item
behind_none : (shop : Shop) (p : Purchase) (sale : Sale) → sale_in shop.items p ≡ Some sale → sale_in (shop.items ++ []) p ≡ Some sale
behind_none shop p sale there = ap (λ (items : List Item). sale_in items p) (append-nil shop.items) ∙ there

quotes : (shop : Shop) (items : List Item) (p : Purchase) (sale : Sale) (session : List ℕ) → sale_in items p ≡ Some sale
    → QuotesKept (record shop { items = items }) (to.Consumer p.consumer) (quote_message session (record { transaction = p.transaction; product = sale.product; price = sale.price }))
quotes shop items p sale session there = record { purchase = p; sale = sale; session = session; kept = there; is = refl; consumer = refl }

delivers : (shop : Shop) (items : List Item) (p : Purchase) (sale : Sale) (epoid : Epoid) (session : List ℕ) (place : ℕ) → sale_in items p ≡ Some sale → epoid_in sale.progress ≡ Some epoid
    → DeliversKept (record shop { items = items }) (to.Consumer p.consumer) (goods_message session p.transaction epoid (sealed_for shop.stall shop.products epoid.serial sale.product) place)
delivers shop items p sale epoid session place there identifier =
    record { purchase = p; sale = sale; epoid = epoid; session = session; place = place; kept = there; identifier = identifier; is = refl; consumer = refl }

endorses : (shop : Shop) (items : List Item) (p : Purchase) (sale : Sale) (epoid : Epoid) (order : List ℕ) → sale_in items p ≡ Some sale → sale.progress ≡ progress.Endorsed epoid order
    → EndorsesKept (record shop { items = items }) to.Server (endorsed_message shop.stall epoid order)
endorses shop items p sale epoid order there is = record { purchase = p; sale = sale; epoid = epoid; order = order; kept = there; endorsed = is; is = refl; house = refl }

passes : (shop : Shop) (items : List Item) (p : Purchase) (sale : Sale) (epoid : Epoid) (order part : List ℕ) → sale_in items p ≡ Some sale → sale.progress ≡ progress.Settled epoid order part
    → PassesKept (record shop { items = items }) (table.to_consumer p.consumer) p.transaction part
passes shop items p sale epoid order part there is = record { purchase = p; sale = sale; epoid = epoid; order = order; kept = there; settled = is; number = refl; consumer = refl }

-- a request for a price
price_given : (o : Option Product) (price : Price) → table.price_of o ≡ Ok price → is_some o ≡ true
price_given None price e = absurd cc
price_given (Some product) price e = refl

-- a quote is of a product that the catalogue has
quote_given : (o : Option Product) (tariff : Tariff) (product : ℕ) (consumer : PartyId) (request : List ℕ) (moment : ℕ) (price : Price)
    → table.price_quoted (quoted_of product o (offers_shown tariff product consumer request moment)) ≡ Ok price → is_some o ≡ true
quote_given None tariff product consumer request moment price e = absurd cc
quote_given (Some p) tariff product consumer request moment price e = refl

first_given : (products : List Product) (offers : Option Tariff) (product : ℕ) (consumer : PartyId) (request : List ℕ) (moment : ℕ) (price : Price)
    → table.first_price products offers product consumer request moment ≡ Ok price → is_some (product_in products product) ≡ true
first_given products None product consumer request moment price e = price_given (product_in products product) price e
first_given products (Some tariff) product consumer request moment price e =
    quote_given (product_in products product) tariff product consumer request moment price e

first_quote_follows : (shop : Shop) (session : List ℕ) (consumer : PartyId) (r : PriceRequest) (moment : ℕ) (a : Answer) → sale_in shop.items (table.purchase_by consumer r.transaction) ≡ None
    → table.first_quote shop.products shop.offers session consumer r moment ≡ Ok a → Follows shop a
unfolding table.first_quote
first_quote_follows shop session consumer r moment a none e =
    let price = inside (table.first_price shop.products shop.offers r.product consumer r.request moment) _ a e in
    let known : is_some (product_in shop.products r.product) ≡ true = first_given shop.products shop.offers r.product consumer r.request moment price.0 price.1 in
    let p = table.purchase_by consumer r.transaction in
    let x = item.Quoted p r.product price.0 (request_digest r) in
    subst (Follows shop) (answer_is _ a price.2)
    (rw (none, known) refl, quotes shop (shop.items ++ x ∷ []) p (record { product = r.product; price = price.0; request = request_digest r; progress = progress.Quoted }) session (behind_item shop x None none))

quote_again_follows : (shop : Shop) (session : List ℕ) (consumer : PartyId) (r : PriceRequest) (sale : Sale) (a : Answer) → sale_in shop.items (table.purchase_by consumer r.transaction) ≡ Some sale
    → table.quote_again session consumer r sale ≡ Ok a → Follows shop a
unfolding table.quote_again
quote_again_follows shop session consumer r sale a there e =
    let p = table.purchase_by consumer r.transaction in
    let same = inside (field 1 (bytes_eq (request_digest r) sale.request)) _ a e in
    subst (Follows shop) (answer_is _ a same.2) (tt, quotes shop (shop.items ++ []) p sale session (behind_none shop p sale there))

quoted_follows : (shop : Shop) (session : List ℕ) (consumer : PartyId) (r : PriceRequest) (moment : ℕ) (o : Option Sale) (a : Answer) → sale_in shop.items (table.purchase_by consumer r.transaction) ≡ o
    → table.quoted shop.products shop.offers session consumer r moment o ≡ Ok a → Follows shop a
quoted_follows shop session consumer r moment None a is e = first_quote_follows shop session consumer r moment a is e
quoted_follows shop session consumer r moment (Some sale) a is e = quote_again_follows shop session consumer r sale a is e

price_follows : (shop : Shop) (ticket sealed : List ℕ) (moment : ℕ) (a : Answer) → table.price_asked shop ticket sealed moment ≡ Ok a → Follows shop a
unfolding table.price_asked
price_follows shop ticket sealed moment a e =
    let t = inside (ticket_in shop.stall ticket moment) _ a e in
    let r = inside (opened price_request_of t.0.session (codes "m001") sealed) _ a t.2 in
    quoted_follows shop t.0.session t.0.consumer r.0 moment (sale_in shop.items (table.purchase_by t.0.consumer r.0.transaction)) a refl r.2

-- a request for goods
serial_is : (next serial : ℕ) → table.left_serial next ≡ Ok serial → serial ≡ next
serial_is next serial e = by (nat_le next LAST_SERIAL) e
  where
    by : (left : Bool) → (let given : Result ℕ Reason = Ok next in cond left given (Err reason.Spent)) ≡ Ok serial → serial ≡ next
    by true e = cc
    by false e = absurd cc

first_part_follows : (shop : Shop) (session : List ℕ) (consumer : PartyId) (r : GoodsRequest) (sale : Sale) (moment : ℕ) (a : Answer) → sale_in shop.items (table.purchase_by consumer r.transaction) ≡ Some sale
    → sale.progress ≡ progress.Quoted → table.first_part shop.stall (goods_in shop.products sale.product) (next_serial shop.items) session consumer r moment ≡ Ok a → Follows shop a
unfolding table.first_part
first_part_follows shop session consumer r sale moment a there before e =
    let goods = goods_in shop.products sale.product in
    let front = inside (field 1 (r.place == 0)) _ a e in
    let short = inside (field 2 (nat_le (length goods) MAX_GOODS)) _ a front.2 in
    let serial = inside (table.left_serial (next_serial shop.items)) _ a short.2 in
    let fits : nat_le (length goods) MAX_GOODS ≡ true = holds 2 (nat_le (length goods) MAX_GOODS) short.0 short.1 in
    let next : serial.0 ≡ next_serial shop.items = serial_is (next_serial shop.items) serial.0 serial.1 in
    let order = table.epoid_for shop.stall moment serial.0 in
    let checksum = sha256 (sealed_for shop.stall shop.products serial.0 sale.product) in
    let test = λ (t : Sale). delivery_follows shop.stall (goods_in shop.products t.product) (next_serial shop.items) order checksum t.progress in
    let quoted : delivery_follows shop.stall goods (next_serial shop.items) order checksum progress.Quoted ≡ true =
    all_true (eq-eqb shop.stall.id.0 shop.stall.id.0 refl) (eq-eqb serial.0 (next_serial shop.items) next) fits (bytes_same checksum) in
    let now : test sale ≡ true = subst (λ (b : Progress). delivery_follows shop.stall goods (next_serial shop.items) order checksum b ≡ true) (sym before) quoted in
    let p = table.purchase_by consumer r.transaction in
    let x = item.Delivered p order checksum in
    let after : sale_in (shop.items ++ x ∷ []) p ≡ Some (record sale { progress = progressed sale.progress x }) = behind_item shop x (Some sale) there in
    let identifier : epoid_in (progressed sale.progress x) ≡ Some order = ap (λ (b : Progress). epoid_in (progressed b x)) before in
    subst (Follows shop) (answer_is _ a serial.2)
    (of_there test (sale_in shop.items p) sale there now, delivers shop (shop.items ++ x ∷ []) p (record sale { progress = progressed sale.progress x }) order session 0 after identifier)

part_again_follows : (shop : Shop) (session : List ℕ) (consumer : PartyId) (r : GoodsRequest) (sale : Sale) (epoid : Epoid) (a : Answer) → sale_in shop.items (table.purchase_by consumer r.transaction) ≡ Some sale
    → epoid_in sale.progress ≡ Some epoid → table.part_again (key_of shop.stall epoid.serial) (goods_in shop.products sale.product) session consumer r epoid ≡ Ok a → Follows shop a
unfolding table.part_again
part_again_follows shop session consumer r sale epoid a there identifier e =
    let p = table.purchase_by consumer r.transaction in
    let key = key_of shop.stall epoid.serial in
    let goods = goods_in shop.products sale.product in
    let starts = inside (field 1 (r.place % PART_BYTES == 0 && nat_lt r.place (length (sealed_goods key goods)))) _ a e in
    subst (Follows shop) (answer_is _ a starts.2) (tt, delivers shop (shop.items ++ []) p sale epoid session r.place (behind_none shop p sale there) identifier)

delivered_follows : (shop : Shop) (session : List ℕ) (consumer : PartyId) (r : GoodsRequest) (sale : Sale) (moment : ℕ) (a : Answer) → sale_in shop.items (table.purchase_by consumer r.transaction) ≡ Some sale
    → table.delivered shop session consumer r sale moment (epoid_in sale.progress) ≡ Ok a → Follows shop a
delivered_follows shop session consumer r sale moment a there e = by sale.progress refl e
  where
    by : (before : Progress) → sale.progress ≡ before → table.delivered shop session consumer r sale moment (epoid_in before) ≡ Ok a → Follows shop a
    by progress.Quoted is e = first_part_follows shop session consumer r sale moment a there is e
    by (progress.Delivered order) is e = part_again_follows shop session consumer r sale order a there (ap epoid_in is) e
    by (progress.Endorsed order kept) is e = part_again_follows shop session consumer r sale order a there (ap epoid_in is) e
    by (progress.Settled order kept part) is e = part_again_follows shop session consumer r sale order a there (ap epoid_in is) e

goods_follows : (shop : Shop) (ticket sealed : List ℕ) (moment : ℕ) (a : Answer) → table.goods_asked shop ticket sealed moment ≡ Ok a → Follows shop a
unfolding table.goods_asked
goods_follows shop ticket sealed moment a e =
    let t = inside (ticket_in shop.stall ticket moment) _ a e in
    let r = inside (opened goods_request_of t.0.session (codes "m003") sealed) _ a t.2 in
    let p = table.purchase_by t.0.consumer r.0.transaction in
    let sale = inside (found reason.Unknown (sale_in shop.items p)) _ a r.2 in
    delivered_follows shop t.0.session t.0.consumer r.0 sale.0 moment a (was_there reason.Unknown (sale_in shop.items p) sale.0 sale.1) sale.2

-- an order
first_order_follows : (shop : Shop) (p : Purchase) (sale : Sale) (epoid : Epoid) (order : List ℕ) (a : Answer) → sale_in shop.items p ≡ Some sale → sale.progress ≡ progress.Delivered epoid
    → table.first_order shop.stall p sale epoid (sha256 (sealed_for shop.stall shop.products epoid.serial sale.product)) order ≡ Ok a → Follows shop a
unfolding table.first_order
first_order_follows shop p sale epoid order a there before e =
    let taken = inside (table.order_taken shop.stall p sale epoid (sha256 (sealed_for shop.stall shop.products epoid.serial sale.product)) order) _ a e in
    let test = λ (t : Sale). order_follows shop p order t t.progress in
    let now : test sale ≡ true = subst (λ (b : Progress). order_follows shop p order sale b ≡ true) (sym before) (ap is_ok taken.1) in
    let after : sale_in (shop.items ++ item.Endorsed p order ∷ []) p ≡ Some (record sale { progress = progressed sale.progress (item.Endorsed p order) }) = behind_item shop (item.Endorsed p order) (Some sale) there in
    let at : progressed sale.progress (item.Endorsed p order) ≡ progress.Endorsed epoid order = ap (λ (b : Progress). progressed b (item.Endorsed p order)) before in
    subst (Follows shop) (answer_is _ a taken.2) (
      of_there test (sale_in shop.items p) sale there now,
      endorses shop (shop.items ++ item.Endorsed p order ∷ []) p (record sale { progress = progressed sale.progress (item.Endorsed p order) }) epoid order after at,
    )

order_again_follows : (shop : Shop) (p : Purchase) (sale : Sale) (epoid : Epoid) (kept order : List ℕ) (a : Answer) → sale_in shop.items p ≡ Some sale → sale.progress ≡ progress.Endorsed epoid kept → table.order_again shop.stall epoid kept order ≡ Ok a → Follows shop a
unfolding table.order_again
order_again_follows shop p sale epoid kept order a there is e =
    let same = inside (field 1 (bytes_eq order kept)) _ a e in
    subst (Follows shop) (answer_is _ a same.2) (tt, endorses shop (shop.items ++ []) p sale epoid kept (behind_none shop p sale there) is)

order_settled_follows : (shop : Shop) (p : Purchase) (sale : Sale) (epoid : Epoid) (kept part order : List ℕ) (a : Answer) → sale_in shop.items p ≡ Some sale → sale.progress ≡ progress.Settled epoid kept part → table.order_settled p kept part order ≡ Ok a → Follows shop a
unfolding table.order_settled
order_settled_follows shop p sale epoid kept part order a there is e =
    let same = inside (field 1 (bytes_eq order kept)) _ a e in
    subst (Follows shop) (answer_is _ a same.2) (tt, passes shop (shop.items ++ []) p sale epoid kept part (behind_none shop p sale there) is)

ordered_follows : (shop : Shop) (p : Purchase) (sale : Sale) (order : List ℕ) (a : Answer) → sale_in shop.items p ≡ Some sale → table.ordered shop p sale order sale.progress ≡ Ok a → Follows shop a
ordered_follows shop p sale order a there e = by sale.progress refl e
  where
    by : (before : Progress) → sale.progress ≡ before → table.ordered shop p sale order before ≡ Ok a → Follows shop a
    by progress.Quoted is e = absurd cc
    by (progress.Delivered epoid) is e = first_order_follows shop p sale epoid order a there is e
    by (progress.Endorsed epoid kept) is e = order_again_follows shop p sale epoid kept order a there is e
    by (progress.Settled epoid kept part) is e = order_settled_follows shop p sale epoid kept part order a there is e

order_follows_so : (shop : Shop) (ticket sealed : List ℕ) (moment : ℕ) (a : Answer) → table.order_sent shop ticket sealed moment ≡ Ok a → Follows shop a
unfolding table.order_sent
order_follows_so shop ticket sealed moment a e =
    let t = inside (ticket_in shop.stall ticket moment) _ a e in
    let r = inside (opened payment_request_of t.0.session (codes "m005") sealed) _ a t.2 in
    let p = table.purchase_by t.0.consumer r.0.transaction in
    let sale = inside (found reason.Unknown (sale_in shop.items p)) _ a r.2 in
    ordered_follows shop p sale.0 r.0.order a (was_there reason.Unknown (sale_in shop.items p) sale.0 sale.1) sale.2

-- a result
first_result_follows : (shop : Shop) (p : Purchase) (sale : Sale) (epoid : Epoid) (kept : List ℕ) (r : Receipt) (part : List ℕ) (a : Answer) → sale_in shop.items p ≡ Some sale
    → sale.progress ≡ progress.Endorsed epoid kept → table.first_result p sale r part ≡ Ok a → Follows shop a
unfolding table.first_result
first_result_follows shop p sale epoid kept r part a there before e =
    let consumer = inside (field 1 (r.consumer.0 == p.consumer.0)) _ a e in
    let product = inside (field 2 (r.product == sale.product)) _ a consumer.2 in
    let price = inside (field 3 (r.price.0 == sale.price.0)) _ a product.2 in
    let x = item.Settled p part in
    let next : result_follows sale.progress ≡ true = subst (λ (b : Progress). result_follows b ≡ true) (sym before) refl in
    let after : sale_in (shop.items ++ x ∷ []) p ≡ Some (record sale { progress = progressed sale.progress x }) = behind_item shop x (Some sale) there in
    let at : progressed sale.progress x ≡ progress.Settled epoid kept part = ap (λ (b : Progress). progressed b x) before in
    subst (Follows shop) (answer_is _ a price.2)
    (of_there (λ t. result_follows t.progress) (sale_in shop.items p) sale there next, passes shop (shop.items ++ x ∷ []) p (record sale { progress = progressed sale.progress x }) epoid kept part after at)

resulted_follows : (shop : Shop) (p : Purchase) (sale : Sale) (r : Receipt) (part : List ℕ) (a : Answer) → sale_in shop.items p ≡ Some sale → table.resulted p sale r part sale.progress ≡ Ok a → Follows shop a
resulted_follows shop p sale r part a there e = by sale.progress refl e
  where
    by : (before : Progress) → sale.progress ≡ before → table.resulted p sale r part before ≡ Ok a → Follows shop a
    by progress.Quoted is e = absurd cc
    by (progress.Delivered epoid) is e = absurd cc
    by (progress.Endorsed epoid kept) is e = first_result_follows shop p sale epoid kept r part a there is e
    by (progress.Settled epoid kept told) is e = absurd cc

result_follows_so : (shop : Shop) (merchant consumer : List ℕ) (a : Answer) → table.result_sent shop merchant consumer ≡ Ok a → Follows shop a
unfolding table.result_sent
result_follows_so shop merchant consumer a e =
    let s = inside (opened signed_of shop.stall.key (codes "rcpt") merchant) _ a e in
    let p = inside (found reason.Unknown (sold_as (deliveries_in shop.items) s.0.receipt.epoid)) _ a s.2 in
    let sale = inside (found reason.Unknown (sale_in shop.items p.0)) _ a p.2 in
    resulted_follows shop p.0 sale.0 s.0.receipt consumer a (was_there reason.Unknown (sale_in shop.items p.0) sale.0 sale.1) sale.2

-- nothing was heard
silent_follows : (shop : Shop) (p : Purchase) (a : Answer) → table.silent shop p ≡ Ok a → Follows shop a
unfolding table.silent
silent_follows shop p a e =
    let sale = inside (found reason.Unknown (sale_in shop.items p)) _ a e in
    by sale.0 (was_there reason.Unknown (sale_in shop.items p) sale.0 sale.1) sale.0.progress refl sale.2
  where
    by : (sale : Sale) → sale_in shop.items p ≡ Some sale → (before : Progress) → sale.progress ≡ before → table.unheard shop.stall p before ≡ Ok a → Follows shop a
    by sale there progress.Quoted is e = absurd cc
    by sale there (progress.Delivered epoid) is e = absurd cc
    by sale there (progress.Endorsed epoid kept) is e = subst (Follows shop) (answer_is _ a e) (tt, endorses shop (shop.items ++ []) p sale epoid kept (behind_none shop p sale there) is)
    by sale there (progress.Settled epoid kept part) is e = subst (Follows shop) (answer_is _ a e) (tt, passes shop (shop.items ++ []) p sale epoid kept part (behind_none shop p sale there) is)

-- whatever is heard
pub heard_follows : (shop : Shop) (m : Message) (moment : ℕ) (a : Answer) → table.heard shop m moment ≡ Ok a → Follows shop a
heard_follows shop (message.PriceAsk ticket sealed) moment a e = price_follows shop ticket sealed moment a e
heard_follows shop (message.GoodsAsk ticket sealed) moment a e = goods_follows shop ticket sealed moment a e
heard_follows shop (message.Order ticket sealed) moment a e = order_follows_so shop ticket sealed moment a e
heard_follows shop other moment a e = absurd cc

pub heard_of_house_follows : (shop : Shop) (m : Message) (a : Answer) → table.heard_of_house shop m ≡ Ok a → Follows shop a
heard_of_house_follows shop (message.Result merchant consumer) a e = result_follows_so shop merchant consumer a e
heard_of_house_follows shop other a e = absurd cc

pub silence_follows : (shop : Shop) (p : Purchase) (a : Answer) → table.silent shop p ≡ Ok a → Follows shop a
silence_follows shop p a e = silent_follows shop p a e

-- what was planned of a row may be kept next, where what the row keeps may
pub plans_follow : (shop : Shop) (r : Result Planned Halt) (row : Result Answer Reason) → Plans r row → ((a : Answer) → row ≡ Ok a → Follows shop a)
    → IfOk r (λ p. IfSome p.answer.keep (λ x. follows shop x ≡ true))
plans_follow shop (Ok planned) row plans each = (each planned.answer plans).0
plans_follow shop (Err why) row plans each = tt
