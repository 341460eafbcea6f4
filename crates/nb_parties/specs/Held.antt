-- What a consumer holds that was told that it paid: the goods of the product.
use Rattle.std.specs.Prelude.{◌≡◌, ◌⊎◌, ℕ, List, ◌∷◌, ◌++◌, Option, Some}
use Rattle.std.specs.List.{slice_get}
use Rattle.nb_units.specs.declared.ids.AcctId.{AcctId}
use Rattle.nb_units.specs.declared.ids.PartyId.{PartyId}
use Rattle.nb_epo.specs.Spelling.{order_bytes}
use Rattle.nb_endorse.specs.declared.receipt.Signed.{Signed}
use Rattle.nb_goods.specs.Collision.{Collision}
use Rattle.nb_goods.specs.Goods.{sealed_goods}
use Rattle.nb_wallet.specs.Purchases.{Purchase}
use Rattle.nb_escrow.specs.declared.head.Head.{Head}
use Rattle.nb_escrow.specs.declared.settlement.PaymentOutcome.TheVariants.{Paid}
use Rattle.nb_consumer.specs.Known.{AllSo}
use Rattle.nb_consumer.specs.State.{Buyer, purchase_of}
use Rattle.nb_merchant.specs.Shop.{Shop}
use Rattle.nb_world.specs.declared.event.Event.{Event}
use Rattle.nb_world.specs.declared.event.Event.TheVariants as on
use Rattle.nb_world.specs.declared.packet.Packet.{Packet}
use Rattle.nb_world.specs.World.{World}
use Rattle.nb_world.specs.Steps.{run}
use Rattle.nb_parties.specs.Rules.{real_rules}
use Rattle.nb_parties.specs.Ends.{EndsBy, IsPaid, EndsAsEntry}
use Rattle.nb_parties.specs.Goods.{IsKeyOfGoods}

-- each consumer of the set-up knows nothing yet, or is one that started again with what it kept
abbrev pub ConsumersAreSo : World Buyer Shop → Type 0
ConsumersAreSo w = (i : ℕ) (b : Buyer) → slice_get w.consumers i ≡ Some b → AllSo b

-- a purchase is paid with these goods; or what is held is a collision with them as they were sealed under this key
abbrev pub HoldsGoods : List ℕ → List ℕ → Purchase → Type 0
HoldsGoods key goods p = ((paid : IsPaid key p) × (paid.goods ≡ goods)) ⊎ Collision p.held (sealed_goods key goods)

-- Where a purchase ended as the entry of its order says (`EndsLaw`), that is a payment, and a merchant endorsed the very order that the consumer kept
-- with the key of the payment (`GoodsLaw`), the consumer holds the goods of the product.
abbrev pub BuyersHoldGoods : Type 0
BuyersHoldGoods = (head : Head) (cap : ℕ) (w : World Buyer Shop) → ConsumersAreSo w → (es more : List Event) (id : PartyId) (k transaction : ℕ) (s : Signed)
    → let p = real_rules head cap in (ended : EndsBy p (run p w es) id k transaction s)
    → let later = run p w (es ++ on.Deliver k ∷ more) in (whom : PartyId) (now : Option Purchase)
    → (entry : EndsAsEntry head.house later.durable whom s (purchase_of ended.buyer transaction) now)
    → (cacct macct : AcctId) (key : List ℕ) (fee : Option ℕ) → entry.settlement.outcome ≡ Paid cacct macct key fee
    → (seller : PartyId) (packet : Packet) (of : IsKeyOfGoods w seller packet key) → of.endorsed.endorses.sent.order ≡ order_bytes entry.order
    → HoldsGoods key of.endorsed.endorses.product.goods entry.behind
