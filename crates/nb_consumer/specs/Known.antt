-- What holds of each purchase of a consumer that starts again with what it kept.
use Rattle.std.specs.Prelude.{◌≡◌, ℕ, ◌<◌, ◌≤◌, List, [], length, Some, None}
use Rattle.std.specs.List.{AllByRecursion}
use Rattle.sha2.specs.Sha256.{sha256}
use Rattle.nb_units.specs.declared.ids.Price.{Price}
use Rattle.nb_epo.specs.declared.order.Order.{Order}
use Rattle.nb_epo.specs.Spelling.{order_bytes}
use Rattle.nb_epo.specs.Places.{checksum_in}
use Rattle.nb_goods.specs.Goods.{OpensTo}
use Rattle.nb_goods.specs.declared.limits.TheConstants.{MAX_SEALED}
use Rattle.nb_wallet.specs.declared.wallet.Wallet.{Wallet}
use Rattle.nb_wallet.specs.declared.wallet.Start.{Start}
use Rattle.nb_wallet.specs.declared.purchase.Stage.{Stage}
use Rattle.nb_wallet.specs.declared.purchase.Stage.TheVariants as stage
use Rattle.nb_wallet.specs.Purchases.{Purchase}
use Rattle.nb_consumer.specs.State.{Buyer}

-- before the goods are asked for, and where the merchant said nothing of a part, none is held; where it did, some is, and less than all; an order names, in its
-- bytes, the checksum of all that is held; the key of a paid one opens that
abbrev pub HeldSo : Stage → List ℕ → Type 0
HeldSo stage.Ticketing held = held ≡ []
HeldSo (stage.Asked pass) held = held ≡ []
HeldSo (stage.Wanted pass price None) held = held ≡ []
HeldSo (stage.Wanted pass price (Some head)) held = (0 < length held) × (length held < head.total) × (head.total ≤ MAX_SEALED)
HeldSo (stage.Ordered pass order least) held = checksum_in (order_bytes order) ≡ sha256 held
HeldSo (stage.Paid key) held = (goods : List ℕ) × OpensTo key held goods
HeldSo (stage.Refused code) held = Unit {0}
HeldSo stage.Foul held = Unit {0}

-- a price is from 1 to a limit
abbrev pub IsPriceWithin : Price → Price → Type 0
IsPriceWithin price limit = (1 ≤ price.0) × (price.0 ≤ limit.0)

-- an order is of the wallet's consumer, and of the merchant and the product that its purchase was started for
pub record OrderIsFor (w : Wallet) (s : Start) (order : Order) : Type 0 where
  pub consumer : order.consumer ≡ w.id
  pub merchant : order.merchant ≡ s.merchant
  pub product : order.product ≡ s.product

-- the price at which goods are wanted or ordered is within the purchase's limit, and an order names what its purchase was started for
abbrev pub AskedSo : Wallet → Start → Stage → Type 0
AskedSo w s (stage.Wanted pass price head) = IsPriceWithin price s.limit
AskedSo w s (stage.Ordered pass order least) = OrderIsFor w s order × IsPriceWithin order.price s.limit
AskedSo w s other = Unit {0}

-- a purchase is what its stage says, within its limit, and of what was asked for
abbrev pub PurchaseSo : Wallet → Purchase → Type 0
PurchaseSo w p = HeldSo p.stage p.held × AskedSo w p.start p.stage

-- so are all that are known
abbrev pub AllSo : Buyer → Type 0
AllSo b = AllByRecursion (PurchaseSo b.wallet) b.purchases
