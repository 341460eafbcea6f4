-- What reading a shelf answers.
use Rattle.std.specs.Prelude.{◌≡◌, ◌≢◌, ℕ, ◌+◌, List, [], ◌∷◌, ◌++◌, length, Contains, Result, Ok, Err, Option, None, Some, ⊤}
use Rattle.std.specs.Borrow.{Bor}
use Rattle.nb_units.specs.declared.ids.Price.{Price}
use Rattle.nb_price.specs.declared.line.Found.{Found}
use Rattle.nb_price.specs.declared.fault.NoProduct.{NoProduct}
use Rattle.nb_price.specs.declared.fault.ShelfFault.{ShelfFault}
use Rattle.nb_price.specs.declared.fault.ShelfFault.TheVariants.{BadItem, Twice, NoMemory}
use Rattle.nb_price.specs.Shelf.{Item, IsShelf, shelf_bytes, ids, BeginsWith, BeginsWithNone}
use Rattle.nb_price.specs.Products.{Product, products_of, product_in}

-- the bytes are the spelling of these items, and then a rest
pub record Front (bytes : List ℕ) (items : List Item) (rest : List ℕ) : Type 0 where
  pub shelf : IsShelf items
  pub spelled : bytes ≡ shelf_bytes items ++ rest

-- behind so many items, whose numbers differ, stands no item, and something stands there
pub record FailsAt (bytes : List ℕ) (item : ℕ) : Type 0 where
  pub items : List Item
  pub rest : List ℕ
  pub front : Front bytes items rest
  pub number : item ≡ length items + 1
  pub some : rest ≢ []
  pub none : BeginsWithNone rest

-- behind so many items, whose numbers differ, stands one with a number that they have
pub record RepeatsAt (bytes : List ℕ) (item id : ℕ) : Type 0 where
  pub items : List Item
  pub rest : List ℕ
  pub again : Item
  pub more : List ℕ
  pub front : Front bytes items rest
  pub number : item ≡ length items + 1
  pub begins : BeginsWith rest again more
  pub same : again.id ≡ id
  pub held : Contains (ids items) id

-- the products of the shelf that the bytes spell
pub record IsCatalogue (bytes : List ℕ) (found : List Product) : Type 0 where
  pub items : List Item
  pub front : Front bytes items []
  pub products : found ≡ products_of items

-- the catalogue of the shelf, or its first fault; of want of memory nothing is said
abbrev pub ReadsShelf : List ℕ → Result (List Product) ShelfFault → Type 0
ReadsShelf bytes (Ok products) = IsCatalogue bytes products
ReadsShelf bytes (Err (BadItem item)) = FailsAt bytes item
ReadsShelf bytes (Err (Twice item id)) = RepeatsAt bytes item id
ReadsShelf bytes (Err NoMemory) = ⊤

-- the price of a product, or its number where there is none
abbrev pub Quotes : List Product → ℕ → Result Price NoProduct → Type 0
Quotes products id (Ok price) = (p : Product) × (product_in products id ≡ Some p) × (price.0 ≡ p.price)
Quotes products id (Err none) = (product_in products id ≡ None) × (none.id ≡ id)

-- the goods of a product, or that there is none
abbrev pub Holds : List Product → ℕ → Option (Bor (List ℕ)) → Type 0
Holds products id (Some goods) = (p : Product) × (product_in products id ≡ Some p) × (goods.now ≡ p.goods)
Holds products id None = product_in products id ≡ None

-- for the contract of a private function alone: the product of an item was added behind the others, or one of its number was among them
abbrev pub Adds : List Product → List Product → ℕ → Found → Result (Unit {0}) ShelfFault → Type 0
Adds old new item found (Ok done) =
    (product_in old found.id ≡ None) × (new ≡ old ++ record { id = found.id; price = found.price; goods = found.goods.now } ∷ [])
Adds old new item found (Err (BadItem n)) = ⊥
Adds old new item found (Err (Twice n id)) = (n ≡ item) × (id ≡ found.id) × (product_in old found.id ≢ None)
Adds old new item found (Err NoMemory) = ⊤
