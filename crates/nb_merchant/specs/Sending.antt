-- What a message is that a merchant sent: a price is told as it was kept, a part is of the goods that were sealed, an endorsement is of a kept
-- order, which is that of a sale, and a result is passed on as it was kept. And what an endorsement means for who holds sealed goods.
use Rattle.std.specs.Prelude.{◌≡◌, ◌⊎◌, ℕ, ◌<◌, ◌^◌, codes, List, [], Some, Ok}
use Rattle.sha2.specs.Sha256.{sha256}
use Rattle.nb_units.specs.declared.epoid.Epoid.{Epoid}
use Rattle.nb_units.specs.declared.ids.Price.{Price}
use Rattle.nb_epo.specs.declared.order.Order.{Order}
use Rattle.nb_epo.specs.Reading.{order_of}
use Rattle.nb_epo.specs.Places.{checksum_in}
use Rattle.nb_seal.specs.Seal.{seal_of}
use Rattle.nb_endorse.specs.declared.endorsement.Endorsement.{Endorsement}
use Rattle.nb_endorse.specs.Spelling.{endorsement_bytes, IsEndorsement}
use Rattle.nb_goods.specs.Goods.{OpensTo, sealed_goods}
use Rattle.nb_goods.specs.Collision.{Collision}
use Rattle.nb_price.specs.Products.{Product, product_in}
use Rattle.nb_msgs.specs.Bodies.{MessageKeepsRules}
use Rattle.nb_msgs.specs.declared.message.Message.{Message}
use Rattle.nb_msgs.specs.declared.message.Message.TheVariants as message
use Rattle.nb_msgs.specs.declared.node.Step.{Step}
use Rattle.nb_msgs.specs.declared.node.Step.TheVariants as step
use Rattle.nb_msgs.specs.declared.node.To.{To}
use Rattle.nb_msgs.specs.declared.node.To.TheVariants as to
use Rattle.nb_stall.specs.declared.purchase.Purchase.{Purchase}
use Rattle.nb_stall.specs.declared.stall.Stall.{Stall}
use Rattle.nb_stall.specs.declared.sale.Progress.TheVariants as progress
use Rattle.nb_stall.specs.declared.sale.Sale.{Sale}
use Rattle.nb_stall.specs.Sales.{sale_in, epoid_in}
use Rattle.nb_merchant.specs.Shop.{Shop, sealed_for}
use Rattle.nb_stall.specs.Messages.{key_of, quote_message, goods_message, endorsed_message}

-- the bytes are an order for a purchase of this product, at this price, of this request, for goods that were sealed under an identifier
pub record IsOrderFor (stall : Stall) (products : List Product) (p : Purchase) (product : ℕ) (price : Price) (request : List ℕ) (epoid : Epoid) (order : List ℕ) : Type 0 where
  pub read : Order
  pub spelled : order_of order ≡ Ok read
  pub consumer : read.consumer ≡ p.consumer
  pub merchant : read.merchant ≡ stall.id
  pub bought : read.product ≡ product
  pub paid : read.price ≡ price
  pub named : read.epoid ≡ epoid
  pub asked : read.request ≡ request
  pub checksum : checksum_in order ≡ sha256 (sealed_for stall products epoid.serial product)

-- the kept price of a purchase, told to its consumer under a session key
pub record QuotesKept (shop : Shop) (whom : To) (m : Message) : Type 0 where
  pub purchase : Purchase
  pub sale : Sale
  pub session : List ℕ
  pub kept : sale_in shop.items purchase ≡ Some sale
  pub is : m ≡ quote_message session (record { transaction = purchase.transaction; product = sale.product; price = sale.price })
  pub consumer : whom ≡ to.Consumer purchase.consumer

-- the part at a place of the goods of a purchase, sealed under its kept identifier, with what is said of it under a session key, for its consumer
pub record DeliversKept (shop : Shop) (whom : To) (m : Message) : Type 0 where
  pub purchase : Purchase
  pub sale : Sale
  pub epoid : Epoid
  pub session : List ℕ
  pub place : ℕ
  pub kept : sale_in shop.items purchase ≡ Some sale
  pub identifier : epoid_in sale.progress ≡ Some epoid
  pub is : m ≡ goods_message session purchase.transaction epoid (sealed_for shop.stall shop.products epoid.serial sale.product) place
  pub consumer : whom ≡ to.Consumer purchase.consumer

-- the kept order of a purchase, endorsed with the key of its serial number and the stall's account under the stall's key, for the house
pub record EndorsesKept (shop : Shop) (whom : To) (m : Message) : Type 0 where
  pub purchase : Purchase
  pub sale : Sale
  pub epoid : Epoid
  pub order : List ℕ
  pub kept : sale_in shop.items purchase ≡ Some sale
  pub endorsed : sale.progress ≡ progress.Endorsed epoid order
  pub is : m ≡ endorsed_message shop.stall epoid order
  pub house : whom ≡ to.Server

-- the kept result of a purchase, for its consumer
pub record PassesKept (shop : Shop) (whom : To) (transaction : ℕ) (part : List ℕ) : Type 0 where
  pub purchase : Purchase
  pub sale : Sale
  pub epoid : Epoid
  pub order : List ℕ
  pub kept : sale_in shop.items purchase ≡ Some sale
  pub settled : sale.progress ≡ progress.Settled epoid order part
  pub number : transaction ≡ purchase.transaction
  pub consumer : whom ≡ to.Consumer purchase.consumer

-- bytes open to the goods under a key, or are a collision with the goods sealed under it
abbrev pub OpensOrCollides : List ℕ → List ℕ → List ℕ → Type 0
OpensOrCollides key goods bytes = OpensTo key bytes goods ⊎ Collision bytes (sealed_goods key goods)

-- the same order, which is that of the sale, in an endorsement with the stall's account, no memo, and the key of the order's serial number, each
-- field of which is within its limits where the account has its width: bytes with the order's checksum open under the endorsement's key to the goods
-- of the product, or are a collision with the sealed goods
pub record Endorses (shop : Shop) (whom : To) (m : Message) : Type 0 where
  pub sent : EndorsesKept shop whom m
  pub endorsement : Endorsement
  pub sealed : m ≡ message.Endorsed shop.stall.id (seal_of shop.stall.key (codes "endo") (endorsement_bytes endorsement))
  pub of_order : endorsement.order ≡ sent.order
  pub to_account : endorsement.macct ≡ shop.stall.acct
  pub no_memo : endorsement.memo ≡ []
  pub of_serial : endorsement.key ≡ key_of shop.stall sent.epoid.serial
  pub within : shop.stall.acct.0 < 2 ^ 32 → IsEndorsement endorsement
  pub fits : IsOrderFor shop.stall shop.products sent.purchase sent.sale.product sent.sale.price sent.sale.request sent.epoid sent.order
  pub product : Product
  pub sold : product_in shop.products sent.sale.product ≡ Some product
  pub goods : (bytes : List ℕ) → sha256 bytes ≡ checksum_in sent.order → OpensOrCollides endorsement.key product.goods bytes

-- for proofs alone: what a message is by what was kept. A merchant sends no other
abbrev pub SentSo : Shop → To → Message → Type 0
SentSo shop whom (message.Quote transaction sealed) = QuotesKept shop whom (message.Quote transaction sealed)
SentSo shop whom (message.Goods transaction head part) = DeliversKept shop whom (message.Goods transaction head part)
SentSo shop whom (message.Endorsed merchant sealed) = EndorsesKept shop whom (message.Endorsed merchant sealed)
SentSo shop whom (message.Passed transaction part) = PassesKept shop whom transaction part
SentSo shop whom other = ⊥

-- what a message is that was sent: a quote, a part of goods, an endorsement, or a result that is passed on
abbrev pub MessageIs : Shop → To → Message → Type 0
MessageIs shop whom (message.Quote transaction sealed) = QuotesKept shop whom (message.Quote transaction sealed)
MessageIs shop whom (message.Goods transaction head part) = DeliversKept shop whom (message.Goods transaction head part)
MessageIs shop whom (message.Endorsed merchant sealed) = Endorses shop whom (message.Endorsed merchant sealed)
MessageIs shop whom (message.Passed transaction part) = PassesKept shop whom transaction part
MessageIs shop whom other = ⊥

-- and each of its texts is within its limit. A merchant's purchases do not end by a step
abbrev pub StepIs : Shop → Step → Type 0
StepIs shop (step.Move keep whom m) = MessageIs shop whom m × MessageKeepsRules m
StepIs shop (step.Ended keep end) = ⊥
StepIs shop (step.Ignored why) = Unit {0}
