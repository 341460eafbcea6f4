-- A world in numbers: one consumer, one merchant and a house, and a purchase from its start to its end. It meets what the laws premise.
use Rattle.std.specs.Prelude.{◌≡◌, ℕ, List, [], ◌∷◌, ◌++◌, length, replicate, None, Some, Ok}
use Rattle.std.specs.List.{slice_get, AllByRecursion}
use Rattle.nb_units.specs.declared.ids.PartyId.{PartyId}
use Rattle.nb_book.specs.Money.{balance}
use Rattle.nb_entry.specs.declared.entry.Entry.{Entry}
use Rattle.nb_entry.specs.declared.entry.Entry.TheVariants.{Enrol, Fund}
use Rattle.nb_entry.specs.declared.entry.TheConstants.{CONSUMER, MERCHANT}
use Rattle.nb_endorse.specs.declared.receipt.Signed.{Signed}
use Rattle.nb_goods.specs.Goods.{sealed_goods}
use Rattle.nb_price.specs.Products.{Product}
use Rattle.nb_msgs.specs.Reading.{message_of}
use Rattle.nb_msgs.specs.declared.message.Message.{Message}
use Rattle.nb_wallet.specs.declared.wallet.Start.{Start}
use Rattle.nb_wallet.specs.declared.wallet.Wallet.{Wallet}
use Rattle.nb_stall.specs.declared.stall.Stall.{Stall}
use Rattle.nb_stall.specs.Messages.{key_of}
use Rattle.nb_escrow.specs.Head.{IsRuling}
use Rattle.nb_escrow.specs.declared.head.Head.{Head}
use Rattle.nb_consumer.specs.Goods.{phase_in, goods_in}
use Rattle.nb_consumer.specs.State.{Buyer, new_buyer, purchase_of}
use Rattle.nb_consumer.specs.declared.phase.Phase.TheVariants as phase
use Rattle.nb_merchant.specs.Shop.{Shop, new_shop}
use Rattle.nb_world.specs.declared.event.Event.{Event}
use Rattle.nb_world.specs.declared.event.Event.TheVariants as on
use Rattle.nb_world.specs.declared.packet.Maker.TheVariants as by
use Rattle.nb_world.specs.declared.packet.Packet.{Packet}
use Rattle.nb_world.specs.World.{Rules, World}
use Rattle.nb_world.specs.Steps.{run}
use Rattle.nb_world.specs.Laws.{Asks, IsSetUp}
use Rattle.nb_parties.specs.Rules.{real_rules}
use Rattle.nb_parties.specs.Ends.{EndsBy, IsToldBy}
use Rattle.nb_parties.specs.Goods.{IsKeyOfGoods, MerchantsAreEnrolled, IsOpening, PaysUnder, KeepsOrder}
use Rattle.nb_parties.specs.Held.{ConsumersAreSo}

-- ---- the set-up: two enrolments and a fund, a consumer that knows nothing, a merchant that kept nothing

-- the party that buys
abbrev pub buyer_id : PartyId
buyer_id = record { 0 = 1 }

-- the party that sells
abbrev pub seller_id : PartyId
seller_id = record { 0 = 2 }

-- the consumer: its account, its nonce, and the key that it shares with the house
abbrev pub first_wallet : Wallet
first_wallet = record { id = buyer_id; acct = record { 0 = 1 }; nonce = 7; key = replicate 32 0x44 }

-- the merchant: its account, the key that it shares with the house, and what the keys of its goods are made of
abbrev pub first_stall : Stall
first_stall = record { id = seller_id; acct = record { 0 = 2 }; key = replicate 32 0x55; master = replicate 32 0x66 }

-- the house: its own key, the operator's, the index's, and a journal without fees
abbrev pub first_head : Head
first_head = record { house = replicate 32 0x11; operator = replicate 32 0x22; index = replicate 16 0x33; version = 1; rate = 0 }

-- the product 7, of no bytes, at 300
abbrev pub first_product : Product
first_product = record { id = 7; price = 300; goods = [] }

-- both are enrolled, and the consumer's account has 500
abbrev pub first_entries : List Entry
first_entries =
    Enrol buyer_id CONSUMER (record { 0 = 1 }) 7 (replicate 32 0x44) ∷ Enrol seller_id MERCHANT (record { 0 = 2 }) 0 (replicate 32 0x55)
    ∷ Fund (record { 0 = 1 }) 500 (replicate 16 0) ∷ []

-- nothing has happened yet
abbrev pub first_world : World Buyer Shop
first_world = record {
  consumers = new_buyer first_wallet ∷ [];
  merchants = new_shop first_stall (first_product ∷ []) None ∷ [];
  packets = [];
  calls = [];
  turn = None;
  durable = first_entries;
  server = first_entries;
  origins = [];
  acknowledged = [];
  moment = 0;
}

-- the house's journal may hold 8 entries
abbrev pub first_rules : Rules Buyer Shop
first_rules = real_rules first_head 8

-- ---- a purchase

-- the product 7, for at most 400
abbrev pub first_start : Start
first_start = record { transaction = 1; merchant = seller_id; product = 7; limit = record { 0 = 400 }; request = []; memo = [] }

-- a ticket is asked for and granted, a price asked for and told, the goods are asked for: packets 0 to 5
abbrev pub goods_come : List Event
goods_come =
    on.Clock 1000 ∷ on.Buy buyer_id first_start ∷ on.Deliver 0 ∷ on.Turn 0 ∷ on.Answer 0 ∷ on.Deliver 1 ∷ on.Deliver 2 ∷ on.Deliver 3 ∷ on.Deliver 4 ∷ []

-- the consumer keeps its order and sends it, the merchant endorses it, the house pays it, and the merchant passes the result on: packets 6 to 9
abbrev pub order_is_paid : List Event
order_is_paid = on.Deliver 5 ∷ on.Deliver 6 ∷ on.Deliver 7 ∷ on.Turn 1 ∷ on.Write 1 ∷ on.Open 1 ∷ on.Answer 1 ∷ on.Deliver 8 ∷ []

-- the result does not arrive, the consumer asks for the status and is told it: packets 10 and 11
abbrev pub status_is_asked : List Event
status_is_asked = on.QuietConsumer buyer_id 1 ∷ on.Deliver 10 ∷ on.Turn 2 ∷ on.Answer 2 ∷ []

-- the world behind events from the set-up
abbrev pub behind : List Event → World Buyer Shop
behind es = run first_rules first_world es

-- the key of the goods that the merchant sealed first
abbrev pub first_key : List ℕ
first_key = key_of first_stall 1

-- the consumer kept an order, whose bytes these are, when it heard the goods
pub record OrderIsKept (order : List ℕ) : Type 0 where
  pub buyer : Buyer
  pub message : Message
  pub keeps : KeepsOrder buyer message order (sealed_goods first_key [])
  pub holds : slice_get (behind goods_come).consumers 0 ≡ Some buyer
  pub packet : Packet
  pub delivered : slice_get (behind goods_come).packets 5 ≡ Some packet
  pub read : message_of packet.kind packet.body ≡ Ok message

-- the packet that asks for the payment is an endorsement of this order by the merchant, under the key of its goods
pub record OrderIsEndorsed (order : List ℕ) : Type 0 where
  pub packet : Packet
  pub sent : slice_get (behind (goods_come ++ order_is_paid)).packets 7 ≡ Some packet
  pub of : IsKeyOfGoods first_world seller_id packet first_key
  pub same : of.endorsed.endorses.sent.order ≡ order

-- call 1, of a packet that the merchant's step made, asked for a payment, which stands at place 3 under the key of the goods
pub record PaymentStands (w : World Buyer Shop) : Type 0 where
  pub asked : Packet
  pub asks : Asks w 1 asked 1000
  pub maker : asked.maker ≡ by.Merchant seller_id
  pub origin : w.origins ≡ record { place = 3; call = 1 } ∷ []
  pub entry : Entry
  pub stands : slice_get w.durable 3 ≡ Some entry
  pub pays : PaysUnder first_key entry

-- behind these events the delivery of packet k ends the purchase, by a receipt that the house made for the consumer; and it is paid then, with goods
-- of no bytes
pub record EndsPaid (es : List Event) (k : ℕ) : Type 0 where
  pub receipt : Signed
  pub ended : EndsBy first_rules (behind es) buyer_id k 1 receipt
  pub told : IsToldBy first_head 8 (behind (es ++ on.Deliver k ∷ [])) ended.buyer.wallet.key receipt
  pub payment : PaymentStands (behind (es ++ on.Deliver k ∷ []))
  pub buyer : Buyer
  pub now : slice_get (behind (es ++ on.Deliver k ∷ [])).consumers 0 ≡ Some buyer
  pub paid : phase_in (purchase_of buyer 1) ≡ Some (phase.Paid 0)
  pub has : goods_in (purchase_of buyer 1) ≡ Some []

-- in the end there are 12 packets and 4 entries, and 300 went from the one account to the other
pub record IsReported (w : World Buyer Shop) : Type 0 where
  pub packets : length w.packets ≡ 12
  pub commits : length w.durable ≡ 4
  pub payer : balance w.durable (record { 0 = 1 }) ≡ 200
  pub payee : balance w.durable (record { 0 = 2 }) ≡ 300

-- the set-up is as the laws premise; an order is kept, and that order is endorsed, and the purchase ends where the result arrives, and where the status is told in its place
abbrev pub PremisesAreMet : Type 0
PremisesAreMet = IsRuling first_head × IsSetUp first_world × MerchantsAreEnrolled first_world × ConsumersAreSo first_world × AllByRecursion IsOpening first_world.durable
    × ((order : List ℕ) × OrderIsKept order × OrderIsEndorsed order)
    × EndsPaid (goods_come ++ order_is_paid) 9
    × EndsPaid ((goods_come ++ order_is_paid) ++ status_is_asked) 11
    × IsReported (behind (((goods_come ++ order_is_paid) ++ status_is_asked) ++ on.Deliver 11 ∷ []))
