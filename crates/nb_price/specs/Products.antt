-- What a catalogue is seen as: the products of a shelf in its order, without their names.
use Rattle.std.specs.Prelude.{ℕ, List, [], ◌∷◌, map, nat_eq, Option, None, Some, if◌then◌else◌}
use Rattle.nb_price.specs.declared.catalogue.Goods.{Goods}
use Rattle.nb_price.specs.Shelf.{Item}

-- a product of a shelf: its number, its price and its goods
pub record Product : Type 0 where
  pub id : ℕ
  pub price : ℕ
  pub goods : List ℕ

-- that of an item
abbrev pub product_of : Item → Product
product_of x = record { id = x.id; price = x.price; goods = x.goods }

-- those of a shelf
abbrev pub products_of : List Item → List Product
products_of items = map product_of items

-- that of a number and what is held of it
abbrev pub product_at : ℕ × Goods → Product
product_at e = record { id = e.0; price = e.1.price; goods = e.1.bytes.items }

-- the product of a number, if there is one
abbrev pub product_in : List Product → ℕ → Option Product
product_in [] id = None
product_in (p ∷ products) id = if nat_eq id p.id then Some p else product_in products id
