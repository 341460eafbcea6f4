-- The price that a merchant tells first.
use Rattle.std.proofs.Common.{◌≡◌, ◌≢◌, ℕ, ◌≤◌, List, codes, Option, Some, None, Result, Ok, Err, refl, sym, ap, subst, ◌∙◌}
use Rattle.nb_units.specs.Fields.{◌>>=◌}
use Rattle.nb_units.specs.Frames.{AreBytes}
use Rattle.nb_units.specs.declared.ids.PartyId.{PartyId}
use Rattle.nb_units.specs.declared.ids.Price.{Price}
use Rattle.nb_body.specs.declared.price_request.PriceRequest.{PriceRequest}
use Rattle.nb_body.specs.Reading.{price_request_of}
use Rattle.nb_ticket.specs.declared.ticket.Ticket.{Ticket}
use Rattle.nb_price.specs.declared.fault.NoProduct.{NoProduct}
use Rattle.nb_price.specs.Products.{Product, product_in}
use Rattle.nb_groups.specs.declared.quoting.Denial.{Denial}
use Rattle.nb_groups.specs.declared.quoting.Quoted.{Quoted}
use Rattle.nb_groups.specs.Offers.{Tariff, AreApart}
use Rattle.nb_groups.specs.Quote.{Carries, quote_of}
use Rattle.nb_groups.proofs.Quotes.{quote_is_least, denied_is_shelf}
use Rattle.nb_msgs.specs.declared.message.Message.{Message}
use Rattle.nb_msgs.specs.declared.node.Reason.{Reason}
use Rattle.nb_msgs.specs.Tests.{opened}
use Rattle.nb_stall.specs.Sales.{sale_in}
use Rattle.nb_stall.specs.Tests.{ticket_in, request_digest}
use Rattle.nb_merchant.specs.declared.answer.Answer.{Answer}
use Rattle.nb_merchant.specs.Shop.{Shop}
use Rattle.nb_merchant.specs.Table as table
use Rattle.nb_merchant.specs.Laws.{AsksFirst, QuotesAt, QuotedAs, FirstPriceIsTold, QuotedAlike, CheaperIsCarried}

-- a first quote tells its price
quoted_as : (products : List Product) (offers : Option Tariff) (session : List ℕ) (consumer : PartyId) (r : PriceRequest) (moment : ℕ) (told : Result Price Reason)
    → table.first_price products offers r.product consumer r.request moment ≡ told → QuotedAs r.product consumer told (table.first_quote products offers session consumer r moment)
unfolding table.first_quote
quoted_as products offers session consumer r moment (Err why) is = rw is refl
quoted_as products offers session consumer r moment (Ok price) is =
    (_, rw is refl, record { transaction = r.transaction; request = request_digest r; session = session; keeps = refl; tells = refl; whom = refl })

-- a request of a purchase that is not known is answered by a first quote
asked_first : (shop : Shop) (ticket sealed : List ℕ) (moment : ℕ) (t : Ticket) (r : PriceRequest) → ticket_in shop.stall ticket moment ≡ Ok t → opened price_request_of t.session (codes "m001") sealed ≡ Ok r
    → sale_in shop.items (table.purchase_by t.consumer r.transaction) ≡ None
    → table.price_asked shop ticket sealed moment ≡ table.first_quote shop.products shop.offers t.session t.consumer r moment
unfolding table.price_asked
asked_first shop ticket sealed moment t r opens reads new = rw (opens, reads, new) refl

pub first_price_is_told : FirstPriceIsTold
first_price_is_told shop moment m by =
    let row = ap (λ (n : Message). table.heard shop n moment) by.is ∙ asked_first shop by.ticket by.sealed moment by.shown by.asked by.opens by.reads by.new in
    let told = table.first_price shop.products shop.offers by.asked.product by.shown.consumer by.asked.request moment in
    subst (QuotedAs by.asked.product by.shown.consumer told) (sym row) (quoted_as shop.products shop.offers by.shown.session by.shown.consumer by.asked moment told refl)

pub quoted_alike : QuotedAlike
quoted_alike one other moment m n first second products offers product consumer request = (
  table.first_price one.products one.offers first.asked.product first.shown.consumer first.asked.request moment,
  first_price_is_told one moment m first,
  subst
      (λ (x : List Product × Option Tariff × ℕ × PartyId × List ℕ). QuotedAs x.2 x.3 (table.first_price x.0 x.1 x.2 x.3 x.4 moment) (table.heard other n moment))
      (λ i. (sym products i, sym offers i, sym product i, sym consumer i, sym request i))
      (first_price_is_told other moment n second),
)

-- ---- a price below the catalogue's

same_product : (a b : Product) (o : Option Product) → o ≡ Some a → o ≡ Some b → a ≡ b
same_product a b o first second = cc

pub cheaper_is_carried : CheaperIsCarried
cheaper_is_carried products tariff product consumer request moment p price are apart there told other = by (quote_of products tariff product consumer request moment) refl told
  where
    at : (q : Quoted) → quote_of products tariff product consumer request moment ≡ Ok q → q.price ≡ price → (d : Option Denial) → q.denied ≡ d
        → (price.0 ≤ p.price) × Carries tariff.keeper consumer request moment
    at q is same None none =
        let carried = quote_is_least products tariff product consumer request moment q are apart is none in
        let shelf : carried.shelf.price ≡ p.price = ap (λ (x : Product). x.price) (same_product carried.shelf p (product_in products product) carried.found there) in
        let below : price.0 ≤ p.price = subst (λ (n : ℕ). price.0 ≤ n) shelf (subst (λ (x : Price). x.0 ≤ carried.shelf.price) same carried.least.below) in
        (below, carried.carries)
    at q is same (Some d) denied =
        let shelf = denied_is_shelf products tariff product consumer request moment q d is denied in
        let as_listed : price.0 ≡ p.price =
        ap (λ (x : Price). x.0) (sym same) ∙ shelf.2 ∙ ap (λ (x : Product). x.price) (same_product shelf.0 p (product_in products product) shelf.1 there) in
        absurd (other as_listed)

    by : (r : Result Quoted NoProduct) → quote_of products tariff product consumer request moment ≡ r → table.price_quoted r ≡ Ok price
        → (price.0 ≤ p.price) × Carries tariff.keeper consumer request moment
    by (Err none) is e = absurd cc
    by (Ok q) is e = let same : q.price ≡ price = cc in at q is same q.denied refl
