-- What a merchant is seen as: who it is, what it sells, what it offers to groups, and what it kept.
use Rattle.std.specs.Prelude.{ℕ, List, [], ◌∷◌, ◌++◌, Option, Some, None}
use Rattle.nb_goods.specs.Goods.{sealed_goods}
use Rattle.nb_price.specs.Products.{Product, product_in}
use Rattle.nb_groups.specs.Offers.{Tariff}
use Rattle.nb_stall.specs.declared.stall.Stall.{Stall}
use Rattle.nb_stall.specs.declared.item.Item.{Item}
use Rattle.nb_stall.specs.Messages.{key_of}

-- what a merchant is seen as
pub record Shop : Type 0 where
  pub stall : Stall
  pub products : List Product
  pub offers : Option Tariff
  pub items : List Item

-- one with offers or with none, before anything was kept
abbrev pub new_shop : Stall → List Product → Option Tariff → Shop
new_shop stall products offers = record { stall = stall; products = products; offers = offers; items = [] }

-- a merchant as it was before it kept anything
abbrev pub unkept : Shop → Shop
unkept shop = record shop { items = [] }

-- with an item more
abbrev pub with_item : Shop → Item → Shop
with_item shop x = record shop { items = shop.items ++ x ∷ [] }

-- the goods of a product. The catalogue has each product that a price was told of, so that these are never the goods of none
abbrev pub goods_of : Option Product → List ℕ
goods_of None = []
goods_of (Some p) = p.goods

-- the goods of the product of this number in a catalogue
abbrev pub goods_in : List Product → ℕ → List ℕ
goods_in products id = goods_of (product_in products id)

-- the goods of a product, sealed under the key of a serial number
abbrev pub sealed_for : Stall → List Product → ℕ → ℕ → List ℕ
sealed_for stall products serial product = sealed_goods (key_of stall serial) (goods_in products product)
