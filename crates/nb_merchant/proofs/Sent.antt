-- What was sent, over what was kept.
use Rattle.std.proofs.Common.{◌≡◌, ℕ, ◌≤◌, length, Bool, true, false, ◌==◌, ◌&&◌, List, [], ◌∷◌, ◌++◌, Option, Some, None, IfSome, Result, Ok, Err, IfOk, OnOk, refl, sym, ap, subst, ◌∙◌, append_assoc, append-nil}
use Rattle.std.proofs.lemmas.Bool.{eqb-true, false≢true}
use Rattle.std.proofs.lemmas.Slice.Eq.{bytes_eq-Decides}
use Rattle.std.specs.Prelude.{is_some, is_none}
use Rattle.std.specs.Result.{is_ok}
use Rattle.std.specs.Str.{bytes_eq}
use Rattle.sha2.specs.Sha256.{sha256}
use Rattle.nb_units.specs.declared.memory.NoMemory.{NoMemory}
use Rattle.nb_units.specs.declared.epoid.Epoid.{Epoid}
use Rattle.nb_units.specs.declared.ids.PartyId.{PartyId}
use Rattle.nb_units.specs.declared.ids.Price.{Price}
use Rattle.nb_epo.specs.declared.order.Order.{Order}
use Rattle.nb_epo.specs.Reading.{order_of}
use Rattle.nb_epo.proofs.Placing.{checksum_is_read}
use Rattle.nb_goods.proofs.Sealing.{right_checksum}
use Rattle.nb_price.specs.Products.{Product, product_in}
use Rattle.nb_msgs.specs.declared.message.Message.{Message}
use Rattle.nb_msgs.specs.declared.message.Message.TheVariants as message
use Rattle.nb_msgs.specs.declared.node.Reason.{Reason}
use Rattle.nb_msgs.specs.declared.node.Step.{Step}
use Rattle.nb_msgs.specs.declared.node.To.{To}
use Rattle.nb_stall.specs.declared.purchase.Purchase.{Purchase}
use Rattle.nb_stall.specs.declared.stall.Stall.{Stall}
use Rattle.nb_stall.specs.declared.item.Item.{Item}
use Rattle.nb_stall.specs.declared.item.Item.TheVariants as item
use Rattle.nb_stall.specs.declared.sale.Progress.{Progress}
use Rattle.nb_stall.specs.declared.sale.Progress.TheVariants as progress
use Rattle.nb_stall.specs.declared.sale.Sale.{Sale}
use Rattle.nb_merchant.specs.declared.answer.Answer.{Answer}
use Rattle.nb_merchant.specs.declared.answer.Planned.{Planned}
use Rattle.nb_merchant.specs.declared.answer.Halt.{Halt}
use Rattle.nb_merchant.specs.declared.answer.Halt.TheVariants as halt
use Rattle.nb_merchant.specs.Telling.{Plans, Performs, performed}
use Rattle.std.specs.List.{AllByRecursion}
use Rattle.nb_msgs.specs.Bodies.{MessageKeepsRules}
use Rattle.nb_stall.specs.declared.limits.TheConstants.{MAX_PART}
use Rattle.nb_stall.specs.Spelling.{IsItem}
use Rattle.nb_stall.proofs.Lengths.{quote_short, goods_short, endorsement_short}
use Rattle.nb_stall.specs.Reading.{purchase_of}
use Rattle.nb_units.specs.Epoid.{is_same_epoid}
use Rattle.nb_stall.specs.Sales.{is_same, progressed, moved, told, sale_in, next_serial}
use Rattle.nb_merchant.specs.Shop.{Shop, unkept, with_item, goods_of, goods_in, sealed_for}
use Rattle.nb_stall.specs.Messages.{key_of, endorsement_for}
use Rattle.nb_msgs.specs.Tests.{field, or_seal}
use Rattle.nb_merchant.specs.Table as table
use Rattle.nb_merchant.specs.Keeping.{delivery_follows, order_follows, result_follows, of_sale, follows, all_follow, AllFollow, IsKept}
use Rattle.nb_merchant.specs.Sending.{IsOrderFor, EndorsesKept, Endorses, OpensOrCollides, SentSo, MessageIs, StepIs}
use Rattle.nb_stall.proofs.Noting.{one_purchase}
use Rattle.nb_stall.proofs.Serials.{both_true}
use Rattle.nb_merchant.proofs.Keeping.{sale_from_more}
use Rattle.nb_merchant.proofs.Following.{Follows, inside, holds}
use Rattle.nb_merchant.proofs.Parts.{ItemSays, part_says}
use Rattle.nb_merchant.proofs.Lengths.{read_is_short, endorsement_within}

-- ---- an order that fits

one_epoid : (a b : Epoid) → is_same_epoid a b ≡ true → a ≡ b
one_epoid a b is =
    let last = both_true (a.merchant.0 == b.merchant.0 && a.moment == b.moment) (a.serial == b.serial) is in
    let first = both_true (a.merchant.0 == b.merchant.0) (a.moment == b.moment) last.0 in
    let merchant : a.merchant.0 ≡ b.merchant.0 = eqb-true a.merchant.0 b.merchant.0 first.0 in
    let moment : a.moment ≡ b.moment = eqb-true a.moment b.moment first.1 in
    let serial : a.serial ≡ b.serial = eqb-true a.serial b.serial last.1 in
    rw (merchant, moment, serial) refl

party_is : (a b : PartyId) → (a.0 == b.0) ≡ true → a ≡ b
party_is a b is = ap (λ (n : ℕ). let p : PartyId = record { 0 = n } in p) (eqb-true a.0 b.0 is)

price_is : (a b : Price) → (a.0 == b.0) ≡ true → a ≡ b
price_is a b is = ap (λ (n : ℕ). let p : Price = record { 0 = n } in p) (eqb-true a.0 b.0 is)

is_order_for : (stall : Stall) (products : List Product) (p : Purchase) (sale : Sale) (epoid : Epoid) (order : List ℕ) (o : Order) (done : Unit {0}) → order_of order ≡ Ok o
    → table.order_fits stall p.consumer sale epoid (sha256 (sealed_for stall products epoid.serial sale.product)) o ≡ Ok done
    → IsOrderFor stall products p sale.product sale.price sale.request epoid order
unfolding table.order_fits
is_order_for stall products p sale epoid order o done spelled e =
    let sum = sha256 (sealed_for stall products epoid.serial sale.product) in
    let t1 = inside (field 1 (o.consumer.0 == p.consumer.0)) _ done e in
    let t2 = inside (field 2 (o.merchant.0 == stall.id.0)) _ done t1.2 in
    let t3 = inside (field 3 (o.product == sale.product)) _ done t2.2 in
    let t4 = inside (field 4 (o.price.0 == sale.price.0)) _ done t3.2 in
    let t5 = inside (field 5 (is_same_epoid o.epoid epoid)) _ done t4.2 in
    let t6 = inside (field 6 (bytes_eq o.checksum sum)) _ done t5.2 in
    record {
      read = o;
      spelled = spelled;
      consumer = party_is o.consumer p.consumer (holds 1 (o.consumer.0 == p.consumer.0) t1.0 t1.1);
      merchant = party_is o.merchant stall.id (holds 2 (o.merchant.0 == stall.id.0) t2.0 t2.1);
      bought = eqb-true o.product sale.product (holds 3 (o.product == sale.product) t3.0 t3.1);
      paid = price_is o.price sale.price (holds 4 (o.price.0 == sale.price.0) t4.0 t4.1);
      named = one_epoid o.epoid epoid (holds 5 (is_same_epoid o.epoid epoid) t5.0 t5.1);
      asked = (bytes_eq-Decides o.request sale.request).0 (holds 7 (bytes_eq o.request sale.request) done t6.2);
      checksum = sym (checksum_is_read order o spelled) ∙ (bytes_eq-Decides o.checksum sum).0 (holds 6 (bytes_eq o.checksum sum) t6.0 t6.1);
    }

was_read : (order : List ℕ) (o : Order) → table.order_read order ≡ Ok o → order_of order ≡ Ok o
was_read order o e = by (order_of order) e
  where
    by : (r : Result Order ℕ) → or_seal r ≡ Ok o → r ≡ Ok o
    by (Ok x) e = cc
    by (Err place) e = absurd cc

was_ok : (r : Result (Unit {0}) Reason) → is_ok r ≡ true → r ≡ Ok tt
was_ok (Ok x) is = refl
was_ok (Err why) is = absurd (false≢true is)

order_taken_is : (stall : Stall) (products : List Product) (p : Purchase) (sale : Sale) (epoid : Epoid) (order : List ℕ)
    → is_ok (table.order_taken stall p sale epoid (sha256 (sealed_for stall products epoid.serial sale.product)) order) ≡ true → IsOrderFor stall products p sale.product sale.price sale.request epoid order
unfolding table.order_taken
order_taken_is stall products p sale epoid order is =
    let taken = was_ok (table.order_taken stall p sale epoid (sha256 (sealed_for stall products epoid.serial sale.product)) order) is in
    let o = inside (table.order_read order) _ tt taken in
    is_order_for stall products p sale epoid order o.0 tt (was_read order o.0 o.1) o.2

-- ---- what is known of each sale

-- an order that was endorsed is that of the sale, whatever the widths of what was kept
abbrev ProgressIs : Stall → List Product → Purchase → ℕ → Price → List ℕ → Progress → Type 0
ProgressIs stall products p product price request progress.Quoted = Unit {0}
ProgressIs stall products p product price request (progress.Delivered epoid) = Unit {0}
ProgressIs stall products p product price request (progress.Endorsed epoid order) = IsOrderFor stall products p product price request epoid order
ProgressIs stall products p product price request (progress.Settled epoid order part) = IsOrderFor stall products p product price request epoid order

abbrev SaleIs : Stall → List Product → Purchase → Sale → Type 0
SaleIs stall products p sale = (is_some (product_in products sale.product) ≡ true) × ProgressIs stall products p sale.product sale.price sale.request sale.progress

-- with an item more of the purchase
quoted_is : (stall : Stall) (products : List Product) (p : Purchase) (product : ℕ) (price : Price) (request : List ℕ) (o : Option Sale) → (is_none o && is_some (product_in products product)) ≡ true
    → IfSome (moved o (item.Quoted p product price request)) (SaleIs stall products p)
quoted_is stall products p product price request None next = (next, tt)
quoted_is stall products p product price request (Some sale) next = absurd (false≢true next)

delivered_is : (shop : Shop) (p : Purchase) (order : Epoid) (checksum : List ℕ) (o : Option Sale)
    → of_sale (λ sale. delivery_follows shop.stall (goods_in shop.products sale.product) (next_serial shop.items) order checksum sale.progress) o ≡ true
    → IfSome o (SaleIs shop.stall shop.products p) → IfSome (moved o (item.Delivered p order checksum)) (SaleIs shop.stall shop.products p)
delivered_is shop p order checksum None next is = absurd (false≢true next)
delivered_is shop p order checksum (Some sale) next is = (is.0, by sale.progress next)
  where
    by : (before : Progress) → delivery_follows shop.stall (goods_in shop.products sale.product) (next_serial shop.items) order checksum before ≡ true
        → ProgressIs shop.stall shop.products p sale.product sale.price sale.request (progressed before (item.Delivered p order checksum))
    by progress.Quoted next = tt
    by (progress.Delivered e) next = tt
    by (progress.Endorsed e kept) next = absurd (false≢true next)
    by (progress.Settled e kept part) next = absurd (false≢true next)

endorsed_is : (shop : Shop) (p : Purchase) (order : List ℕ) (o : Option Sale) → of_sale (λ sale. order_follows shop p order sale sale.progress) o ≡ true → IfSome o (SaleIs shop.stall shop.products p)
    → IfSome (moved o (item.Endorsed p order)) (SaleIs shop.stall shop.products p)
endorsed_is shop p order None next is = absurd (false≢true next)
endorsed_is shop p order (Some sale) next is = (is.0, by sale.progress next)
  where
    by : (before : Progress) → order_follows shop p order sale before ≡ true
        → ProgressIs shop.stall shop.products p sale.product sale.price sale.request (progressed before (item.Endorsed p order))
    by progress.Quoted next = tt
    by (progress.Delivered e) next = order_taken_is shop.stall shop.products p sale e order next
    by (progress.Endorsed e kept) next = absurd (false≢true next)
    by (progress.Settled e kept part) next = absurd (false≢true next)

settled_is : (shop : Shop) (p : Purchase) (part : List ℕ) (o : Option Sale) → of_sale (λ sale. result_follows sale.progress) o ≡ true → IfSome o (SaleIs shop.stall shop.products p)
    → IfSome (moved o (item.Settled p part)) (SaleIs shop.stall shop.products p)
settled_is shop p part None next is = absurd (false≢true next)
settled_is shop p part (Some sale) next is = (is.0, by sale.progress is.1)
  where
    by : (before : Progress) → ProgressIs shop.stall shop.products p sale.product sale.price sale.request before
        → ProgressIs shop.stall shop.products p sale.product sale.price sale.request (progressed before (item.Settled p part))
    by progress.Quoted is = tt
    by (progress.Delivered e) is = tt
    by (progress.Endorsed e kept) is = is
    by (progress.Settled e kept part) is = is

moved_is : (shop : Shop) (x : Item) → follows shop x ≡ true → IfSome (sale_in shop.items (purchase_of x)) (SaleIs shop.stall shop.products (purchase_of x))
    → IfSome (moved (sale_in shop.items (purchase_of x)) x) (SaleIs shop.stall shop.products (purchase_of x))
moved_is shop (item.Quoted p product price request) next is = quoted_is shop.stall shop.products p product price request (sale_in shop.items p) next
moved_is shop (item.Delivered p order checksum) next is = delivered_is shop p order checksum (sale_in shop.items p) next is
moved_is shop (item.Endorsed p order) next is = endorsed_is shop p order (sale_in shop.items p) next is
moved_is shop (item.Settled p part) next is = settled_is shop p part (sale_in shop.items p) next is

-- of every purchase
abbrev SalesAre : Shop → Type 0
SalesAre shop = (p : Purchase) → IfSome (sale_in shop.items p) (SaleIs shop.stall shop.products p)

sales_more : (shop : Shop) (x : Item) → follows shop x ≡ true → SalesAre shop → SalesAre (with_item shop x)
sales_more shop x next are p = subst (λ (o : Option Sale). IfSome o (SaleIs shop.stall shop.products p)) (sym (sale_from_more p None shop.items x)) (by (is_same (purchase_of x) p) refl)
  where
    by : (same : Bool) → is_same (purchase_of x) p ≡ same → IfSome (told p (sale_in shop.items p) x) (SaleIs shop.stall shop.products p)
    by true e = rw e (subst (λ (q : Purchase). IfSome (moved (sale_in shop.items q) x) (SaleIs shop.stall shop.products q)) (one_purchase (purchase_of x) p e) (moved_is shop x next (are (purchase_of x))))
    by false e = rw e (are p)

sales_kept : (start : Shop) (items : List Item) → all_follow start items ≡ true → SalesAre start → SalesAre (record start { items = start.items ++ items })
sales_kept start [] all are = subst (λ (items : List Item). SalesAre (record start { items = items })) (sym (append-nil start.items)) are
sales_kept start (x ∷ items) all are =
    let parts = both_true (follows start x) (all_follow (with_item start x) items) all in
    subst (λ (xs : List Item). SalesAre (record start { items = xs })) (append_assoc start.items (x ∷ []) items) (sales_kept (with_item start x) items parts.1 (sales_more start x parts.0 are))

pub sales_are : (shop : Shop) → AllFollow shop → SalesAre shop
sales_are shop follow = sales_kept (unkept shop) shop.items follow (λ p. tt)

-- ---- what was sent

product_is : (o : Option Product) → is_some o ≡ true → (product : Product) × (o ≡ Some product)
product_is None is = absurd (false≢true is)
product_is (Some product) is = (product, refl)

-- the order of an endorsement is that of its sale
order_is : (shop : Shop) (whom : To) (m : Message) → AllFollow shop → (sent : EndorsesKept shop whom m)
    → (is_some (product_in shop.products sent.sale.product) ≡ true) × IsOrderFor shop.stall shop.products sent.purchase sent.sale.product sent.sale.price sent.sale.request sent.epoid sent.order
order_is shop whom m follow sent =
    let of_it = subst (λ (o : Option Sale). IfSome o (SaleIs shop.stall shop.products sent.purchase)) sent.kept (sales_are shop follow sent.purchase) in
    (of_it.0, subst (ProgressIs shop.stall shop.products sent.purchase sent.sale.product sent.sale.price sent.sale.request) sent.endorsed of_it.1)

pub endorses_so : (shop : Shop) (whom : To) (m : Message) → AllFollow shop → EndorsesKept shop whom m → Endorses shop whom m
endorses_so shop whom m follow sent =
    let of_it = order_is shop whom m follow sent in
    let there = product_is (product_in shop.products sent.sale.product) of_it.0 in
    let key = key_of shop.stall sent.epoid.serial in
    record {
      sent = sent;
      endorsement = endorsement_for shop.stall sent.epoid sent.order;
      sealed = sent.is;
      of_order = refl;
      to_account = refl;
      no_memo = refl;
      of_serial = refl;
      within = endorsement_within shop.stall sent.epoid sent.order (read_is_short sent.order of_it.1.read of_it.1.spelled);
      fits = of_it.1;
      product = there.0;
      sold = there.1;
      goods = λ bytes same.
          subst (λ (goods : List ℕ). OpensOrCollides key goods bytes) (ap goods_of there.1) (right_checksum key (goods_in shop.products sent.sale.product) bytes (same ∙ of_it.1.checksum));
    }

-- what is sent is as it was kept
pub message_so : (shop : Shop) (whom : To) (m : Message) → AllFollow shop → SentSo shop whom m → MessageIs shop whom m
message_so shop whom (message.Quote transaction sealed) follow sent = sent
message_so shop whom (message.Goods transaction head part) follow sent = sent
message_so shop whom (message.Endorsed merchant sealed) follow sent = endorses_so shop whom (message.Endorsed merchant sealed) follow sent
message_so shop whom (message.Passed transaction part) follow sent = sent
message_so shop whom other follow sent = absurd sent

-- ---- how long what was sent is

parts_short : (items : List Item) → AllByRecursion IsItem items → AllByRecursion (ItemSays (λ p part. length part ≤ MAX_PART)) items
parts_short [] all = tt
parts_short (item.Quoted p product price request ∷ items) all = (tt, parts_short items all.1)
parts_short (item.Delivered p epoid checksum ∷ items) all = (tt, parts_short items all.1)
parts_short (item.Endorsed p order ∷ items) all = (tt, parts_short items all.1)
parts_short (item.Settled p part ∷ items) all = (all.0.1, parts_short items all.1)

-- each of its texts is within its limit
message_within : (shop : Shop) (whom : To) (m : Message) → IsKept shop → SentSo shop whom m → MessageKeepsRules m
message_within shop whom (message.Quote transaction sealed) kept sent =
    subst MessageKeepsRules (sym sent.is) (quote_short sent.session (record { transaction = sent.purchase.transaction; product = sent.sale.product; price = sent.sale.price }))
message_within shop whom (message.Goods transaction head part) kept sent =
    subst MessageKeepsRules (sym sent.is) (goods_short sent.session sent.purchase.transaction sent.epoid (sealed_for shop.stall shop.products sent.epoid.serial sent.sale.product) sent.place)
message_within shop whom (message.Endorsed merchant sealed) kept sent =
    let fits = (order_is shop whom (message.Endorsed merchant sealed) kept.follow sent).1 in
    subst MessageKeepsRules (sym sent.is) (endorsement_short shop.stall sent.epoid sent.order (read_is_short sent.order fits.read fits.spelled))
message_within shop whom (message.Passed transaction part) kept sent =
    part_says (λ p part. length part ≤ MAX_PART) shop.items sent.purchase sent.sale sent.epoid sent.order part (parts_short shop.items kept.all) sent.kept sent.settled
message_within shop whom other kept sent = absurd sent

message_is : (shop : Shop) (whom : To) (m : Message) → IsKept shop → SentSo shop whom m → MessageIs shop whom m × MessageKeepsRules m
message_is shop whom m kept sent = (message_so shop whom m kept.follow sent, message_within shop whom m kept sent)

-- the step of a row, where what is kept then may stand as it does
step_is : (shop : Shop) (row : Result Answer Reason) → ((a : Answer) → row ≡ Ok a → Follows shop a) → IsKept (table.after shop row) → StepIs (table.after shop row) (table.step_of row)
step_is shop (Ok a) each kept = message_is (table.after shop (Ok a)) a.to a.message kept (each a refl).1
step_is shop (Err why) each kept = tt

-- what a call gave
pub result_is : (shop new : Shop) (planned : Result Planned Halt) (row : Result Answer Reason) (r : Result Step NoMemory) → Plans planned row → ((a : Answer) → row ≡ Ok a → Follows shop a) → IsKept new
    → IfOk r (Performs planned) → OnOk r (new ≡ performed shop planned) → IfOk r (StepIs new)
result_is shop new (Ok p) row (Ok s) plans each kept performs at = rw (performs, at) (step_is shop (Ok p.answer) (λ a e. each a (plans ∙ e)) (subst IsKept at kept))
result_is shop new (Err (halt.Ignored why)) row (Ok s) plans each kept performs at = rw performs tt
result_is shop new (Err halt.NoMemory) row (Ok s) plans each kept performs at = absurd performs
result_is shop new planned row (Err none) plans each kept performs at = tt

-- ---- what was kept

items_behind : (xs ys : List Item) → AllByRecursion IsItem (xs ++ ys) → AllByRecursion IsItem ys
items_behind [] ys all = all
items_behind (x ∷ xs) ys all = items_behind xs ys all.1

-- what a call kept
pub result_keeps : (shop new : Shop) (planned : Result Planned Halt) (row : Result Answer Reason) (r : Result Step NoMemory) → Plans planned row → IsKept new → IfOk r (Performs planned)
    → OnOk r (new ≡ performed shop planned) → OnOk r (AllByRecursion IsItem (table.kept_by row))
result_keeps shop new (Ok p) row (Ok s) plans kept performs at = rw plans (items_behind shop.items (table.listed p.answer.keep) (subst IsKept at kept).all)
result_keeps shop new (Err (halt.Ignored why)) row (Ok s) plans kept performs at = rw plans tt
result_keeps shop new (Err halt.NoMemory) row (Ok s) plans kept performs at = absurd performs
result_keeps shop new planned row (Err none) plans kept performs at = tt
