-- Spelling and reading are the two sides of one thing, and what stands in the items in numbers.
use Rattle.std.specs.Prelude.{◌≡◌, ◌≤◌, ℕ, List, [], ◌∷◌, length, Ok}
use Rattle.nb_units.specs.Frames.{AreBytes}
use Rattle.nb_wallet.specs.declared.limits.TheConstants.{STARTED, GRANTED, WANTED, ORDERED, ENDED, PART, FORGOTTEN}
use Rattle.nb_wallet.specs.declared.item.Item.{Item}
use Rattle.nb_wallet.specs.Spelling.{IsItem, item_bytes}
use Rattle.nb_wallet.specs.Reading.{item_of}

-- what was spelled of an item is read as that
abbrev pub ItemReadsBack : Type 0
ItemReadsBack = (x : Item) → IsItem x → item_of (item_bytes x) ≡ Ok x

-- what was read as an item is spelled as those bytes, and is within its limits
abbrev pub ItemSpellsBack : Type 0
ItemSpellsBack = (bytes : List ℕ) (x : Item) → AreBytes bytes → item_of bytes ≡ Ok x → IsItem x × (bytes ≡ item_bytes x)

-- two items with one spelling are one
abbrev pub OneItem : Type 0
OneItem = (a b : Item) → IsItem a → IsItem b → item_bytes a ≡ item_bytes b → a ≡ b

-- the kind of each item: the first byte of its spelling
abbrev pub ItemKindsAre : Type 0
ItemKindsAre = STARTED ∷ GRANTED ∷ WANTED ∷ ORDERED ∷ ENDED ∷ PART ∷ FORGOTTEN ∷ [] ≡ 1 ∷ 2 ∷ 3 ∷ 4 ∷ 5 ∷ 6 ∷ 8 ∷ []

-- no item is longer than an order with the longest hidden part and the longest part of goods
abbrev pub ItemIsShort : Type 0
ItemIsShort = (x : Item) → IsItem x → length (item_bytes x) ≤ 1000297
