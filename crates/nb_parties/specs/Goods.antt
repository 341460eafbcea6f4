-- That sealed goods which a consumer holds open under the key of the payment: of what a merchant endorsed, of every payment in the house's list, and
-- of who was told that it paid.
use Rattle.std.specs.Prelude.{◌≡◌, ◌⊎◌, ℕ, ◌<◌, ◌≤◌, ◌^◌, List, ◌++◌, length, Some, Ok}
use Rattle.std.specs.List.{slice_get, AllByRecursion}
use Rattle.sha2.specs.Sha256.{sha256}
use Rattle.nb_units.specs.declared.ids.PartyId.{PartyId}
use Rattle.nb_book.specs.Searches.{party_in}
use Rattle.nb_entry.specs.declared.entry.Entry.{Entry}
use Rattle.nb_entry.specs.declared.entry.Entry.TheVariants.{Paid, Charged}
use Rattle.nb_book.specs.declared.party.Party.{Party}
use Rattle.nb_epo.specs.Places.{checksum_in}
use Rattle.nb_epo.specs.Spelling.{order_bytes}
use Rattle.nb_epo.specs.declared.order.Order.{Order}
use Rattle.nb_msgs.specs.Bodies.{kind_of, body_bytes}
use Rattle.nb_msgs.specs.declared.message.Message.{Message}
use Rattle.nb_msgs.specs.declared.message.Message.TheVariants as message
use Rattle.nb_msgs.specs.declared.node.To.{To}
use Rattle.nb_wallet.specs.declared.item.Item.TheVariants as item
use Rattle.nb_wallet.specs.Purchases.{Purchase}
use Rattle.nb_stall.specs.declared.stall.Stall.{Stall}
use Rattle.nb_escrow.specs.Head.{IsRuling}
use Rattle.nb_escrow.specs.Laws.{IsEnrolment, IsFund}
use Rattle.nb_escrow.specs.declared.head.Head.{Head}
use Rattle.nb_consumer.specs.State.{Buyer, purchase_of}
use Rattle.nb_consumer.specs.Table.{heard}
use Rattle.nb_consumer.specs.declared.deed.Deed.TheVariants as deed
use Rattle.nb_merchant.specs.declared.answer.Answer.{Answer}
use Rattle.nb_merchant.specs.Keeping.{AllFollow}
use Rattle.nb_merchant.specs.Laws.{Word, done_at}
use Rattle.nb_merchant.specs.Sending.{Endorses, OpensOrCollides}
use Rattle.nb_merchant.specs.Shop.{Shop}
use Rattle.nb_merchant.specs.Table.{after}
use Rattle.nb_world.specs.declared.event.Event.{Event}
use Rattle.nb_world.specs.declared.packet.Maker.TheVariants as by
use Rattle.nb_world.specs.declared.packet.Packet.{Packet}
use Rattle.nb_world.specs.declared.turning.Origin.{Origin}
use Rattle.nb_world.specs.World.{World}
use Rattle.nb_world.specs.Steps.{run}
use Rattle.nb_world.specs.Laws.{CameBy, IsSetUp}
use Rattle.nb_parties.specs.Rules.{house_verdict, real_rules}

-- ---- what a merchant endorsed

-- Where a merchant endorses an order, at whatever it hears, bytes with the order's checksum open under the endorsement's key to the goods of the
-- product, or are a collision with these goods as they were sealed. Premise: what it kept may stand as it does.
abbrev pub EndorsedGoodsOpen : Type 0
EndorsedGoodsOpen = (shop : Shop) (w : Word) (a : Answer) (merchant : PartyId) (sealed : List ℕ) → AllFollow shop → done_at shop w ≡ Ok a
    → a.message ≡ message.Endorsed merchant sealed
    → (is : Endorses (after shop (Ok a)) a.to a.message)
    × ((bytes : List ℕ) → sha256 bytes ≡ checksum_in is.sent.order → OpensOrCollides is.endorsement.key is.product.goods bytes)

-- ---- the set-up

-- the entries enrol this stall under its key, and its numbers have their widths
pub record IsEnrolled (entries : List Entry) (stall : Stall) : Type 0 where
  pub party : Party
  pub found : party_in entries stall.id ≡ Some party
  pub key : party.key ≡ stall.key
  pub id : stall.id.0 < 2 ^ 32
  pub acct : stall.acct.0 < 2 ^ 32

-- each merchant is enrolled, its numbers have their widths, and what it kept may stand as it does: it kept nothing, or begins with what a restart takes up
abbrev pub MerchantsAreEnrolled : World Buyer Shop → Type 0
MerchantsAreEnrolled w = (i : ℕ) (shop : Shop) → slice_get w.merchants i ≡ Some shop → IsEnrolled w.durable shop.stall × AllFollow shop

-- an entry enrols a party, or funds an account
abbrev pub IsOpening : Entry → Type 0
IsOpening e = IsEnrolment e ⊎ IsFund e

-- ---- a payment

-- an entry is a payment, and its goods have this key
abbrev pub PaysUnder : List ℕ → Entry → Type 0
PaysUnder key (Paid digest epoid consumer merchant product price cacct macct moment k) = k ≡ key
PaysUnder key (Charged digest epoid consumer merchant product price fee cacct macct moment k) = k ≡ key
PaysUnder key other = ⊥

-- a packet is an endorsement that a step of this merchant made, one of those that there are in the set-up: with its key, from its shelf, and from
-- what it had kept by then
pub record IsEndorsedBy (first : World Buyer Shop) (id : PartyId) (packet : Packet) : Type 0 where
  pub place : ℕ
  pub merchant : Shop
  pub of : slice_get first.merchants place ≡ Some merchant
  pub its : merchant.stall.id.0 ≡ id.0
  pub shop : Shop
  pub stall : shop.stall ≡ merchant.stall
  pub products : shop.products ≡ merchant.products
  pub whom : To
  pub message : Message
  pub kind : packet.kind ≡ kind_of message
  pub body : packet.body ≡ body_bytes message
  pub endorses : Endorses shop whom message

-- at this message this consumer keeps an order with these bytes, and then holds these sealed goods
pub record KeepsOrder (b : Buyer) (heard_now : Message) (order held : List ℕ) : Type 0 where
  pub transaction : ℕ
  pub purchase : Purchase
  pub kept : Order
  pub part : List ℕ
  pub whom : To
  pub sent : Message
  pub keeps : heard b heard_now ≡ Ok (deed.Keeps (item.Ordered transaction kept part) whom sent)
  pub known : purchase_of b transaction ≡ Some purchase
  pub bytes : order_bytes kept ≡ order
  pub all : purchase.held ++ part ≡ held

-- a payment under this key is that of an endorsement: its key is the endorsement's, and what any consumer held when it kept the endorsed order opens
-- under it to the goods of the product, or is a collision with them as they were sealed
pub record IsKeyOfGoods (first : World Buyer Shop) (id : PartyId) (packet : Packet) (key : List ℕ) : Type 0 where
  pub endorsed : IsEndorsedBy first id packet
  pub same : key ≡ endorsed.endorses.endorsement.key
  pub opens : (b : Buyer) (heard_now : Message) (held : List ℕ) → KeepsOrder b heard_now endorsed.endorses.sent.order held
      → OpensOrCollides key endorsed.endorses.product.goods held

-- the payment at a place came by a call, over the entries before it; where a merchant's step made the packet of that call, the key is that of the
-- goods
pub record IsOfGoods (head : Head) (cap : ℕ) (first later : World Buyer Shop) (at : ℕ) (entry : Entry) (key : List ℕ) : Type 0 where
  pub origin : Origin
  pub came : CameBy (house_verdict head cap) later origin
  pub place : origin.place ≡ at
  pub is : came.entry ≡ entry
  pub goods : (id : PartyId) → came.packet.maker ≡ by.Merchant id → IsKeyOfGoods first id came.packet key

-- Whatever consumers, merchants, the network and injectors do: each payment behind the entries of the set-up is so.
abbrev pub GoodsLaw : Type 0
GoodsLaw = (head : Head) (cap : ℕ) → IsRuling head → (w : World Buyer Shop) → IsSetUp w → MerchantsAreEnrolled w → (es : List Event)
    → let later = run (real_rules head cap) w es in (at : ℕ) (entry : Entry) (key : List ℕ) → slice_get later.durable at ≡ Some entry → PaysUnder key entry
    → length w.durable ≤ at → IsOfGoods head cap w later at entry key

-- And from a set-up of enrolments and funds alone, each payment.
abbrev pub GoodsOfEachPayment : Type 0
GoodsOfEachPayment = (head : Head) (cap : ℕ) → IsRuling head → (w : World Buyer Shop) → IsSetUp w → MerchantsAreEnrolled w → AllByRecursion IsOpening w.durable → (es : List Event)
    → let later = run (real_rules head cap) w es in (at : ℕ) (entry : Entry) (key : List ℕ) → slice_get later.durable at ≡ Some entry → PaysUnder key entry
    → IsOfGoods head cap w later at entry key
