-- The one spelling of what a merchant keeps. Numbers are big-endian; a text has its length before it, in four bytes.
use Rattle.std.specs.Prelude.{◌≡◌, ℕ, ◌<◌, ◌≤◌, ◌^◌, List, [], ◌∷◌, ◌++◌, length}
use Rattle.nb_units.specs.Fields.{be4, be8, sized}
use Rattle.nb_units.specs.Epoid.{IsEpoid, epoid_bytes}
use Rattle.nb_units.specs.declared.limits.TheConstants.{MAX_ORDER}
use Rattle.nb_stall.specs.declared.limits.TheConstants.{QUOTED_ITEM, DELIVERED_ITEM, ENDORSED_ITEM, SETTLED_ITEM, MAX_PART}
use Rattle.nb_stall.specs.declared.purchase.Purchase.{Purchase}
use Rattle.nb_stall.specs.declared.item.Item.{Item}
use Rattle.nb_stall.specs.declared.item.Item.TheVariants.{Quoted, Delivered, Endorsed, Settled}

-- kind 1 | consumer 4 | transaction 8, and then
-- quoted: product 4 | price 8 | digest of the request 32
-- delivered: identifier 16 | checksum 32
-- endorsed: order, at most MAX_ORDER, behind its length 4
-- settled: the consumer's receipt, sealed, at most MAX_PART, behind its length 4
unfoldable pub item_bytes : Item → List ℕ
item_bytes (Quoted p product price request) = (QUOTED_ITEM ∷ []) ++ be4 p.consumer.0 ++ be8 p.transaction ++ be4 product ++ be8 price.0 ++ request
item_bytes (Delivered p epoid checksum) = (DELIVERED_ITEM ∷ []) ++ be4 p.consumer.0 ++ be8 p.transaction ++ epoid_bytes epoid ++ checksum
item_bytes (Endorsed p order) = (ENDORSED_ITEM ∷ []) ++ be4 p.consumer.0 ++ be8 p.transaction ++ sized order
item_bytes (Settled p part) = (SETTLED_ITEM ∷ []) ++ be4 p.consumer.0 ++ be8 p.transaction ++ sized part

-- each part of the name of a purchase fits its width
abbrev pub IsPurchase : Purchase → Type 0
IsPurchase p = (p.consumer.0 < 2 ^ 32) × (p.transaction < 2 ^ 64)

-- each field of an item is within its limits
abbrev pub IsItem : Item → Type 0
IsItem (Quoted p product price request) = IsPurchase p × (product < 2 ^ 32) × (price.0 < 2 ^ 64) × (length request ≡ 32)
IsItem (Delivered p epoid checksum) = IsPurchase p × IsEpoid epoid × (length checksum ≡ 32)
IsItem (Endorsed p order) = IsPurchase p × (length order ≤ MAX_ORDER)
IsItem (Settled p part) = IsPurchase p × (length part ≤ MAX_PART)

-- what a program has to see to itself: that a receipt is no longer than it may be
abbrev pub ItemKeepsRules : Item → Type 0
ItemKeepsRules (Settled p part) = length part ≤ MAX_PART
ItemKeepsRules other = Unit {0}
