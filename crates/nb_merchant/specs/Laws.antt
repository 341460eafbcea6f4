-- What holds of every merchant: its runs and restarts, its serial numbers, the shelves that it may start with, what it passes on, the price that it tells first, and whom
-- it serves.
use Rattle.std.specs.Prelude.{◌≡◌, ◌≢◌, ◌⊎◌, ℕ, ◌+◌, ◌<◌, ◌≤◌, true, List, [], ◌∷◌, ◌++◌, codes, length, map, slice_get, Contains, is_some, Option, Some, None, option_map, IfSome, Result, Ok, Err}
use Rattle.std.specs.List.{AllByRecursion}
use Rattle.nb_units.specs.Frames.{AreBytes}
use Rattle.nb_units.specs.declared.epoid.Epoid.{Epoid}
use Rattle.nb_units.specs.declared.ids.PartyId.{PartyId}
use Rattle.nb_units.specs.declared.ids.Price.{Price}
use Rattle.nb_body.specs.declared.price_request.PriceRequest.{PriceRequest}
use Rattle.nb_body.specs.Reading.{price_request_of}
use Rattle.nb_ticket.specs.declared.ticket.Ticket.{Ticket}
use Rattle.nb_goods.specs.Collision.{Collision}
use Rattle.nb_price.specs.Products.{Product, product_in}
use Rattle.nb_groups.specs.Offers.{Tariff, AreApart}
use Rattle.nb_groups.specs.Quote.{Carries}
use Rattle.nb_msgs.specs.declared.message.Message.{Message}
use Rattle.nb_msgs.specs.declared.message.Message.TheVariants as message
use Rattle.nb_msgs.specs.declared.node.Reason.{Reason}
use Rattle.nb_msgs.specs.declared.node.To.TheVariants as to
use Rattle.nb_merchant.specs.declared.answer.Answer.{Answer}
use Rattle.nb_stall.specs.declared.delivery.Delivery.{Delivery}
use Rattle.nb_stall.specs.declared.purchase.Purchase.{Purchase}
use Rattle.nb_stall.specs.declared.stall.Stall.{Stall}
use Rattle.nb_stall.specs.declared.sale.Sale.{Sale}
use Rattle.nb_stall.specs.declared.sale.Stage.{Stage}
use Rattle.nb_stall.specs.declared.sale.Stage.TheVariants as stage
use Rattle.nb_stall.specs.declared.item.Item.{Item}
use Rattle.nb_stall.specs.declared.item.Item.TheVariants as item
use Rattle.nb_stall.specs.Spelling.{IsItem, item_bytes}
use Rattle.nb_stall.specs.Reading.{purchase_of}
use Rattle.nb_stall.specs.Sales.{sale_in, stage_of, epoid_in, deliveries_in}
use Rattle.nb_stall.specs.Tests.{ticket_in}
use Rattle.nb_stall.specs.Messages.{quote_message}
use Rattle.nb_msgs.specs.Tests.{opened}
use Rattle.nb_merchant.specs.Shop.{Shop, new_shop, unkept, goods_in, sealed_for}
use Rattle.nb_merchant.specs.Table.{purchase_by, first_price, heard, heard_of_house, silent, asker_in, kept_by, after}
use Rattle.nb_merchant.specs.Keeping.{AllFollow, IsKept, restarted}
use Rattle.nb_merchant.specs.Sending.{MessageIs}

-- what a journal has of a merchant
abbrev pub kept_bytes : Shop → List (List ℕ)
kept_bytes shop = map item_bytes shop.items

-- a restart over what a merchant kept gives that merchant
abbrev pub RestartGivesBack : Type 0
RestartGivesBack = (shop : Shop) → IsKept shop → restarted (unkept shop) 0 (kept_bytes shop) ≡ Ok shop

-- what a merchant hears
pub data Word : Type 0 where
  OfConsumer : Message → ℕ → Word
  OfHouse : Message → Word
  Nothing : Purchase → Word

-- what it does
abbrev pub done_at : Shop → Word → Result Answer Reason
done_at shop (OfConsumer m moment) = heard shop m moment
done_at shop (OfHouse m) = heard_of_house shop m
done_at shop (Nothing p) = silent shop p

-- what is done at a word, whatever the widths of what was heard and kept: where each item of the merchant may stand where it does, so may the one
-- that is kept, and what is sent is as it was kept
abbrev pub SentFollows : Type 0
SentFollows = (shop : Shop) (w : Word) (a : Answer) → AllFollow shop → done_at shop w ≡ Ok a → AllFollow (after shop (Ok a)) × MessageIs (after shop (Ok a)) a.to a.message

-- it hears something; or it stops, and starts again with a catalogue, and with offers or with none
pub data Event : Type 0 where
  Hears : Word → Event
  Starts : List Product → Option Tariff → Event

-- the merchant behind an event. Each field of what is kept has its width, as the numbers and texts of programs have; a start is over what was kept
abbrev pub Leads : Shop → Event → Shop → Type 0
Leads old (Hears w) new = (new ≡ after old (done_at old w)) × AllByRecursion IsItem (kept_by (done_at old w))
Leads old (Starts products offers) new = restarted (new_shop old.stall products offers) 0 (kept_bytes old) ≡ Ok new

-- and behind events
abbrev pub Runs : Shop → List Event → Shop → Type 0
Runs old [] new = new ≡ old
Runs old (e ∷ events) new = (next : Shop) × Leads old e next × Runs next events new

-- from a merchant whose items may stand as they do, each within its limits, behind every list of events, with restarts in it: so may those kept then, a
-- restart gives the merchant, and the stall is the same
abbrev pub RunsAreKept : Type 0
RunsAreKept = (first : Shop) (events : List Event) (shop : Shop) → IsKept first → Runs first events shop
    → IsKept shop × (shop.stall ≡ first.stall) × (restarted (unkept shop) 0 (kept_bytes shop) ≡ Ok shop)

-- all that was kept stays, and goods that are sealed later have higher serial numbers than those before
abbrev pub NoSerialAgain : Type 0
NoSerialAgain = (first : Shop) (events : List Event) (shop : Shop) → IsKept first → Runs first events shop → (more : List Item) × (shop.items ≡ first.items ++ more)
    × ((i j : ℕ) (d e : Delivery) → slice_get (deliveries_in first.items) i ≡ Some d → slice_get (deliveries_in more) j ≡ Some e → d.epoid.serial < e.epoid.serial)

-- what is passed on, behind every list of events, is the consumer's part of a message that came from the house in it or just then, or was kept for that
-- purchase before it: of a merchant that began with nothing, always the first
abbrev pub PassedIsHeard : Type 0
PassedIsHeard = (first : Shop) (events : List Event) (shop : Shop) (w : Word) (a : Answer) (transaction : ℕ) (part : List ℕ) → IsKept first → Runs first events shop
    → done_at shop w ≡ Ok a → a.message ≡ message.Passed transaction part
    → ((merchant : List ℕ) × Contains (events ++ Hears w ∷ []) (Hears (OfHouse (message.Result merchant part))))
    ⊎ ((p : Purchase) × (transaction ≡ p.transaction) × (a.to ≡ to.Consumer p.consumer) × Contains first.items (item.Settled p part))

-- the goods that were sealed have the numbers 1, 2 and so on, and identifiers of this merchant
abbrev pub SerialsFollow : Type 0
SerialsFollow = (shop : Shop) → IsKept shop → (i : ℕ) (d : Delivery) → slice_get (deliveries_in shop.items) i ≡ Some d → (d.epoid.serial ≡ i + 1) × (d.epoid.merchant ≡ shop.stall.id)

-- no two places have one identifier
abbrev pub IdentifiersDiffer : Type 0
IdentifiersDiffer = (shop : Shop) → IsKept shop → (i j : ℕ) (d e : Delivery) → slice_get (deliveries_in shop.items) i ≡ Some d → slice_get (deliveries_in shop.items) j ≡ Some e → d.epoid ≡ e.epoid → i ≡ j

-- ---- restarts

-- a restart reads its items: the merchant that it gives is who it is, sells and offers what it does and kept exactly what the bytes spell, in their order
abbrev pub RestartKeepsItems : Type 0
RestartKeepsItems = (stall : Stall) (products : List Product) (offers : Option Tariff) (journal : List (List ℕ)) (shop : Shop) → AllByRecursion AreBytes journal → restarted (new_shop stall products offers) 0 journal ≡ Ok shop
    → (shop.stall ≡ stall) × (shop.products ≡ products) × (shop.offers ≡ offers) × (kept_bytes shop ≡ journal) × IsKept shop

-- how far a purchase is by what was kept, as `state` tells it
abbrev pub stage_in : List Item → Purchase → Option Stage
stage_in items p = option_map (λ sale. stage_of sale.progress) (sale_in items p)

-- how far a purchase is behind an item of it
abbrev pub stage_behind : Item → Stage
stage_behind (item.Quoted p product price request) = stage.Quoted
stage_behind (item.Delivered p epoid checksum) = stage.Delivered
stage_behind (item.Endorsed p order) = stage.Endorsed
stage_behind (item.Settled p part) = stage.Settled

-- no item is of a purchase
abbrev pub NoneOf : Purchase → List Item → Type 0
NoneOf p items = AllByRecursion (λ (x : Item). purchase_of x ≢ p) items

-- a purchase is as far as its last item says; one without an item is not there
abbrev pub LastItemTells : Type 0
LastItemTells = (shop : Shop) → IsKept shop
    → ((front back : List Item) (x : Item) → shop.items ≡ front ++ x ∷ back → NoneOf (purchase_of x) back → stage_in shop.items (purchase_of x) ≡ Some (stage_behind x))
    × ((p : Purchase) → NoneOf p shop.items → stage_in shop.items p ≡ None)

-- a shelf serves a sale: it has its product, and once goods were sealed it has the same goods of it
pub record Serves (products others : List Product) (sale : Sale) : Type 0 where
  pub there : is_some (product_in others sale.product) ≡ true
  pub same : (epoid : Epoid) → epoid_in sale.progress ≡ Some epoid → goods_in others sale.product ≡ goods_in products sale.product

-- and each sale of the items
abbrev pub ServesAll : List Product → List Product → List Item → Type 0
ServesAll products others items = (p : Purchase) (sale : Sale) → sale_in items p ≡ Some sale → Serves products others sale

-- another shelf that serves each sale, with whatever prices and further products, takes up the same items, whatever is offered
abbrev pub ShelvesMayChange : Type 0
ShelvesMayChange = (shop : Shop) (others : List Product) (offers : Option Tariff) → IsKept shop → ServesAll shop.products others shop.items → IsKept (record shop { products = others; offers = offers })

-- one that lost a product, and serves each purchase of the items before, tells the first item that it is quoted in
abbrev pub LostProductIsBad : Type 0
LostProductIsBad = (shop : Shop) (others : List Product) (offers : Option Tariff) (front back : List Item) (p : Purchase) (product : ℕ) (price : Price) (request : List ℕ) → IsKept shop
    → shop.items ≡ front ++ item.Quoted p product price request ∷ back → ServesAll shop.products others front → product_in others product ≡ None
    → restarted (new_shop shop.stall others offers) 0 (kept_bytes shop) ≡ Err (length front)

-- one that has other goods of a product tells the first item for which they were sealed, or both have one digest when they are sealed
abbrev pub OtherGoodsAreBad : Type 0
OtherGoodsAreBad = (shop : Shop) (others : List Product) (offers : Option Tariff) (front back : List Item) (p : Purchase) (epoid : Epoid) (checksum : List ℕ) (sale : Sale) → IsKept shop
    → shop.items ≡ front ++ item.Delivered p epoid checksum ∷ back → ServesAll shop.products others front → sale_in front p ≡ Some sale
    → goods_in others sale.product ≢ goods_in shop.products sale.product
    → (restarted (new_shop shop.stall others offers) 0 (kept_bytes shop) ≡ Err (length front))
    ⊎ Collision (sealed_for shop.stall others epoid.serial sale.product) (sealed_for shop.stall shop.products epoid.serial sale.product)

-- ---- the price that is told first

-- a consumer asks for a price, with a ticket that opens, and the merchant knows nothing of the purchase
pub record AsksFirst (shop : Shop) (moment : ℕ) (m : Message) : Type 0 where
  pub ticket : List ℕ
  pub sealed : List ℕ
  pub shown : Ticket
  pub asked : PriceRequest
  pub is : m ≡ message.PriceAsk ticket sealed
  pub opens : ticket_in shop.stall ticket moment ≡ Ok shown
  pub reads : opened price_request_of shown.session (codes "m001") sealed ≡ Ok asked
  pub new : sale_in shop.items (purchase_by shown.consumer asked.transaction) ≡ None

-- an item with the price of a product is kept, and the price is told to the consumer
pub record QuotesAt (product : ℕ) (consumer : PartyId) (price : Price) (a : Answer) : Type 0 where
  pub transaction : ℕ
  pub request : List ℕ
  pub session : List ℕ
  pub keeps : a.keep ≡ Some (item.Quoted (purchase_by consumer transaction) product price request)
  pub tells : a.message ≡ quote_message session (record { transaction = transaction; product = product; price = price })
  pub whom : a.to ≡ to.Consumer consumer

-- so for this price; or the message is ignored for this reason
abbrev pub QuotedAs : ℕ → PartyId → Result Price Reason → Result Answer Reason → Type 0
QuotedAs product consumer (Ok price) row = (a : Answer) × (row ≡ Ok a) × QuotesAt product consumer price a
QuotedAs product consumer (Err why) row = row ≡ Err why

-- the price that is told first is that of the catalogue, or with offers what is quoted for them, for the ticket's consumer, what it asks and the moment
abbrev pub FirstPriceIsTold : Type 0
FirstPriceIsTold = (shop : Shop) (moment : ℕ) (m : Message) (by : AsksFirst shop moment m)
    → QuotedAs by.asked.product by.shown.consumer (first_price shop.products shop.offers by.asked.product by.shown.consumer by.asked.request moment) (heard shop m moment)

-- and it depends on nothing else: two merchants, whoever they are and whatever they kept, which do not know the purchase, quote a product alike where
-- what they sell, what they offer, the moment, the consumer and its request agree
abbrev pub QuotedAlike : Type 0
QuotedAlike = (one other : Shop) (moment : ℕ) (m n : Message) (first : AsksFirst one moment m) (second : AsksFirst other moment n)
    → one.products ≡ other.products → one.offers ≡ other.offers
    → first.asked.product ≡ second.asked.product → first.shown.consumer ≡ second.shown.consumer → first.asked.request ≡ second.asked.request
    → (told : Result Price Reason) × QuotedAs first.asked.product first.shown.consumer told (heard one m moment) × QuotedAs first.asked.product first.shown.consumer told (heard other n moment)

-- who is told less than the catalogue's price sent a credential of its own, sealed under the keeper's key, which holds at this moment
abbrev pub CheaperIsCarried : Type 0
CheaperIsCarried = (products : List Product) (tariff : Tariff) (product : ℕ) (consumer : PartyId) (request : List ℕ) (moment : ℕ) (p : Product) (price : Price) → AreBytes request → AreApart tariff.offers
    → product_in products product ≡ Some p → first_price products (Some tariff) product consumer request moment ≡ Ok price → price.0 ≢ p.price
    → (price.0 ≤ p.price) × Carries tariff.keeper consumer request moment

-- ---- whom it serves

-- what is kept is of this consumer, and what is sent goes to it or is for the house
abbrev pub IsServed : PartyId → Answer → Type 0
IsServed consumer a = IfSome a.keep (λ x. (purchase_of x).consumer ≡ consumer) × ((a.to ≡ to.Consumer consumer) ⊎ (a.to ≡ to.Server))

-- law: what is done at a consumer's message is done for the one whose ticket it shows. Where it shows nobody's, it is ignored
abbrev pub AskerIsServed : Type 0
AskerIsServed = (shop : Shop) (m : Message) (moment : ℕ)
    → ((a : Answer) → heard shop m moment ≡ Ok a → (consumer : PartyId) × (asker_in shop m moment ≡ Some consumer) × IsServed consumer a)
    × (asker_in shop m moment ≡ None → (why : Reason) × (heard shop m moment ≡ Err why))
