-- The shelf of a merchant: items one behind the other. An item is a line, id;price;name;length, and then so many bytes of goods.
use Rattle.std.specs.Prelude.{◌≡◌, ◌≢◌, ℕ, ◌<◌, ◌≤◌, ◌^◌, List, ◌∷◌, ◌++◌, length, slice_index, map, nat_eq}
use Rattle.std.specs.List.{flat_map, AllByRecursion, IsDistinct}
use Rattle.std.specs.Fmt.{decimal}
use Rattle.nb_goods.specs.declared.limits.TheConstants.{MAX_GOODS}
use Rattle.nb_price.specs.declared.limits.TheConstants.{MAX_NAME, MAX_PRICE, SEMICOLON, LINE_FEED}

-- its four parts
pub record Item : Type 0 where
  pub id : ℕ
  pub price : ℕ
  pub name : List ℕ
  pub goods : List ℕ

-- a byte of a name: from 20 to 7E, and no semicolon
abbrev pub IsNameByte : ℕ → Type 0
IsNameByte b = (0x20 ≤ b) × (b ≤ 0x7E) × (b ≢ SEMICOLON)

-- a name: each of its bytes is one
abbrev pub IsName : List ℕ → Type 0
IsName name = (k : ℕ) → k < length name → IsNameByte (slice_index name k)

-- what a product may cost
abbrev pub IsPrice : ℕ → Type 0
IsPrice price = (1 ≤ price) × (price ≤ MAX_PRICE)

-- each part is within its limits
pub record IsItem (x : Item) : Type 0 where
  pub id : x.id < 2 ^ 32
  pub price : IsPrice x.price
  pub name : length x.name ≤ MAX_NAME
  pub bytes : IsName x.name
  pub goods : length x.goods ≤ MAX_GOODS

-- the one spelling of an item. Numbers are decimal, without sign or leading zero
unfoldable pub item_bytes : Item → List ℕ
item_bytes x =
    decimal x.id ++ SEMICOLON ∷ (decimal x.price ++ SEMICOLON ∷ (x.name ++ SEMICOLON ∷ (decimal (length x.goods) ++ LINE_FEED ∷ x.goods)))

-- the one spelling of items
abbrev pub shelf_bytes : List Item → List ℕ
shelf_bytes items = flat_map item_bytes items

-- the numbers of the products, in order
abbrev pub ids : List Item → List ℕ
ids items = map (λ x. x.id) items

-- each is an item, and no two have one number
pub record IsShelf (items : List Item) : Type 0 where
  pub all : AllByRecursion IsItem items
  pub apart : IsDistinct nat_eq (ids items)

-- an item stands at the front of the bytes
abbrev pub BeginsWith : List ℕ → Item → List ℕ → Type 0
BeginsWith bytes x rest = IsItem x × (bytes ≡ item_bytes x ++ rest)

-- no item does
abbrev pub BeginsWithNone : List ℕ → Type 0
BeginsWithNone bytes = (x : Item) (rest : List ℕ) → ¬ BeginsWith bytes x rest
