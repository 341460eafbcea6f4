-- What holds of every shelf.
use Rattle.std.specs.Prelude.{◌≡◌, ℕ, List}
use Rattle.nb_price.specs.declared.limits.TheConstants.{MAX_SHELF, MAX_NAME, MAX_PRICE, SEMICOLON, LINE_FEED}
use Rattle.nb_price.specs.Shelf.{Item, BeginsWith}

-- what stands at the front of bytes is one item and one rest
abbrev pub OneItem : Type 0
OneItem = (bytes : List ℕ) (x y : Item) (r s : List ℕ) → BeginsWith bytes x r → BeginsWith bytes y s → (x ≡ y) × (r ≡ s)

-- the limits in numbers, and the marks
abbrev pub ShelfLimitsAre : Type 0
ShelfLimitsAre = (MAX_SHELF ≡ 268435456) × (MAX_NAME ≡ 64) × (MAX_PRICE ≡ 1000000000) × (SEMICOLON ≡ 0x3B) × (LINE_FEED ≡ 0x0A)
