-- What an endorsed order has to be for it to be paid or refused, in the words of the entries, of seals and of grammars. No test of
-- the verdict is cited here.
use Rattle.std.specs.Prelude.{◌≡◌, ◌≢◌, ◌⊎◌, ℕ, ◌<◌, ◌≤◌, ◌==◌, ◌||◌, List, length, codes, Option, Some, None, Ok, IsNone, if◌then◌else◌}
use Rattle.nb_entry.specs.declared.entry.Entry.{Entry}
use Rattle.nb_entry.specs.declared.entry.Entry.TheVariants as entries
use Rattle.nb_entry.specs.declared.entry.TheConstants.{CONSUMER, MERCHANT}
use Rattle.nb_book.specs.declared.party.Party.{Party}
use Rattle.nb_book.specs.declared.reason.TheConstants.{CONSUMER_ACCOUNT, MERCHANT_ACCOUNT, PRICE_RANGE, TOO_OLD, TOO_EARLY, BALANCE_LOW, CONSUMER_NONCE}
use Rattle.nb_book.specs.Legal.{PriceIsLegal, IsInTime, PriceIsOut, IsTooOld, IsTooEarly}
use Rattle.nb_book.specs.Money.{balance}
use Rattle.nb_book.specs.Searches.{party_in, order_in}
use Rattle.nb_epo.specs.declared.order.Order.{Order}
use Rattle.nb_epo.specs.Reading.{order_of, hidden_of}
use Rattle.nb_epo.specs.Tags.{order_tag}
use Rattle.nb_endorse.specs.declared.endorsement.Endorsement.{Endorsement}
use Rattle.nb_endorse.specs.declared.receipt.TheConstants.{PAID_CODE}
use Rattle.nb_endorse.specs.declared.reply.Reply.{Reply}
use Rattle.nb_endorse.specs.declared.reply.Reply.TheVariants.{Result as Receipts}
use Rattle.nb_endorse.specs.Reading.{endorsement_of}
use Rattle.nb_seal.specs.Seal.{OpensAs}
use Rattle.nb_endorse.specs.Tags.{endorsement_digest}
use Rattle.nb_body.specs.declared.endorsed.EndorsedOrder.{EndorsedOrder}
use Rattle.nb_escrow.specs.declared.head.Head.{Head}
use Rattle.nb_escrow.specs.declared.order.Presented.{Presented}
use Rattle.nb_escrow.specs.declared.settlement.RefusalReason.{RefusalReason}
use Rattle.nb_body.specs.Reading.{endorsed_of}
use Rattle.nb_escrow.specs.Head.{charge}

-- a party that is enrolled as a merchant asks for the payment of an order
pub record IsAsked (H : List Entry) (body : List ℕ) (request : EndorsedOrder) (merchant : Party) : Type 0 where
  pub spelled : endorsed_of body ≡ Ok request
  pub enrolled : party_in H request.merchant ≡ Some merchant
  pub sells : merchant.role ≡ MERCHANT

-- and its endorsement is sealed under its key
pub record IsEndorsed (H : List Entry) (body : List ℕ) (request : EndorsedOrder) (merchant : Party) (endorsement : Endorsement) : Type 0 where
  pub asked : IsAsked H body request merchant
  pub opens : OpensAs endorsement_of merchant.key (codes "endo") request.sealed (Ok endorsement)

-- and holds an order
pub record IsOrdered (H : List Entry) (body : List ℕ) (request : EndorsedOrder) (merchant : Party) (endorsement : Endorsement) (order : Order) : Type 0 where
  pub endorsed : IsEndorsed H body request merchant endorsement
  pub spelled : order_of endorsement.order ≡ Ok order

-- which a party that is enrolled as a consumer signed, for the merchant that endorses it
pub record IsSignedOrder (H : List Entry) (body : List ℕ) (request : EndorsedOrder) (merchant : Party) (endorsement : Endorsement) (order : Order) (consumer : Party) : Type 0 where
  pub ordered : IsOrdered H body request merchant endorsement order
  pub enrolled : party_in H order.consumer ≡ Some consumer
  pub buys : consumer.role ≡ CONSUMER
  pub endorser : order.merchant ≡ request.merchant
  pub issuer : order.epoid.merchant ≡ request.merchant
  pub signed : order.tag ≡ order_tag consumer.key order

-- an endorsed order is authentic over these entries: it is so, and its hidden part is sealed under the consumer's key
pub record IsAuthenticOrder (H : List Entry) (body : List ℕ) (p : Presented) : Type 0 where
  pub request : EndorsedOrder
  pub signed : IsSignedOrder H body request p.merchant p.endorsement p.order p.consumer
  pub opens : OpensAs hidden_of p.consumer.key (codes "hide") p.order.hidden (Ok p.hidden)
  pub hashed : p.digest ≡ endorsement_digest p.endorsement

-- it may be settled: no entry settles its identifier, and fewer entries are held than the journal may hold
pub record MaySettle (H : List Entry) (cap : ℕ) (body : List ℕ) (p : Presented) : Type 0 where
  pub authentic : IsAuthenticOrder H body p
  pub new : IsNone (order_in H p.order.epoid)
  pub room : length H < cap

-- it may be paid: the accounts and the nonce are those enrolled, the price is from 1 to 10^9, in time, and in the consumer's account
pub record IsPayable (H : List Entry) (cap : ℕ) (body : List ℕ) (moment : ℕ) (p : Presented) : Type 0 where
  pub settles : MaySettle H cap body p
  pub pays : p.hidden.acct ≡ p.consumer.acct
  pub knows : p.hidden.nonce ≡ p.consumer.nonce
  pub credited : p.endorsement.macct ≡ p.merchant.acct
  pub priced : PriceIsLegal p.order.price
  pub in_time : IsInTime p.order.epoid moment
  pub covered : p.order.price.0 ≤ balance H p.consumer.acct

-- the payment of it, without a fee or with this one
abbrev pub payment_with : Option ℕ → Presented → ℕ → Entry
payment_with None p moment = entries.Paid p.digest p.order.epoid p.order.consumer p.order.merchant p.order.product p.order.price p.consumer.acct p.merchant.acct moment p.endorsement.key
payment_with (Some fee) p moment =
    entries.Charged p.digest p.order.epoid p.order.consumer p.order.merchant p.order.product p.order.price fee p.consumer.acct p.merchant.acct moment p.endorsement.key

-- the payment of it under a head: with what the house keeps
abbrev pub payment_of : Head → Presented → ℕ → Entry
payment_of head p moment = payment_with (charge head p.order.price) p moment

-- both receipts say paid, and have the key of the endorsement
abbrev pub TellsPayment : Presented → Reply → Type 0
TellsPayment p (Receipts merchant consumer) =
    (merchant.code ≡ PAID_CODE) × (consumer.code ≡ PAID_CODE)
    × (merchant.key ≡ Some p.endorsement.key) × (consumer.key ≡ Some p.endorsement.key)
TellsPayment p other = ⊥

-- what the reason says is true: 31, 37 and 32 show what was named and what is enrolled, 33 the price and the highest, 34 and 35 the
-- later moment and the earlier, 36 the balance and the price
abbrev pub IsTrueReason : List Entry → Presented → ℕ → RefusalReason → Type 0
IsTrueReason H p moment why =
    ((why.code ≡ CONSUMER_ACCOUNT) × (why.a ≡ p.hidden.acct.0) × (why.b ≡ p.consumer.acct.0) × (why.a ≢ why.b))
    ⊎ ((why.code ≡ CONSUMER_NONCE) × (why.a ≡ p.hidden.nonce) × (why.b ≡ p.consumer.nonce) × (why.a ≢ why.b))
    ⊎ ((why.code ≡ MERCHANT_ACCOUNT) × (why.a ≡ p.endorsement.macct.0) × (why.b ≡ p.merchant.acct.0) × (why.a ≢ why.b))
    ⊎ ((why.code ≡ PRICE_RANGE) × PriceIsOut p.order.price why.a why.b)
    ⊎ ((why.code ≡ TOO_OLD) × IsTooOld p.order.epoid moment why.a why.b)
    ⊎ ((why.code ≡ TOO_EARLY) × IsTooEarly p.order.epoid moment why.a why.b)
    ⊎ ((why.code ≡ BALANCE_LOW) × (why.a ≡ balance H p.consumer.acct) × (why.b ≡ p.order.price.0) × (why.a < why.b))

-- its refusal for this reason
abbrev pub refusal_of : Presented → ℕ → RefusalReason → Entry
refusal_of p moment why = entries.Refused p.digest p.order.epoid p.order.consumer p.order.merchant p.order.product p.order.price why.code why.a why.b moment

-- what a reason shows the consumer: its two numbers, but for those that are the merchant's own
abbrev pub shown_to_consumer : RefusalReason → Option (ℕ × ℕ)
shown_to_consumer why = if why.code == MERCHANT_ACCOUNT then None else Some (why.a, why.b)

-- and what the merchant: its two numbers, but for those that are the consumer's own
abbrev pub shown_to_merchant : RefusalReason → Option (ℕ × ℕ)
shown_to_merchant why = if why.code == CONSUMER_ACCOUNT || why.code == CONSUMER_NONCE || why.code == BALANCE_LOW then None else Some (why.a, why.b)

-- both receipts have the reason's code, and show what it shows each party
abbrev pub TellsReason : RefusalReason → Reply → Type 0
TellsReason why (Receipts merchant consumer) =
    (merchant.code ≡ why.code) × (consumer.code ≡ why.code)
    × (merchant.shown ≡ shown_to_merchant why) × (consumer.shown ≡ shown_to_consumer why)
TellsReason why other = ⊥

-- the digest that a payment or a refusal holds
abbrev pub digest_held : Entry → Option (List ℕ)
digest_held (entries.Paid digest epoid consumer merchant product price cacct macct moment key) = Some digest
digest_held (entries.Charged digest epoid consumer merchant product price fee cacct macct moment key) = Some digest
digest_held (entries.Refused digest epoid consumer merchant product price code a b moment) = Some digest
digest_held other = None
