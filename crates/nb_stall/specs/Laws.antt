-- What holds of every kept item: spelling and reading are the two sides of one thing.
use Rattle.std.specs.Prelude.{◌≡◌, ◌≤◌, ℕ, List, [], ◌∷◌, length, Ok}
use Rattle.nb_units.specs.Frames.{AreBytes}
use Rattle.nb_stall.specs.declared.limits.TheConstants.{QUOTED_ITEM, DELIVERED_ITEM, ENDORSED_ITEM, SETTLED_ITEM, MAX_ITEM, MAX_PART, LAST_SERIAL}
use Rattle.nb_stall.specs.declared.item.Item.{Item}
use Rattle.nb_stall.specs.Spelling.{IsItem, item_bytes}
use Rattle.nb_stall.specs.Reading.{item_of}

-- what was spelled of an item is read as that
abbrev pub ItemReadsBack : Type 0
ItemReadsBack = (x : Item) → IsItem x → item_of (item_bytes x) ≡ Ok x

-- what was read as an item is spelled as those bytes, and is within its limits
abbrev pub ItemSpellsBack : Type 0
ItemSpellsBack = (bytes : List ℕ) (x : Item) → AreBytes bytes → item_of bytes ≡ Ok x → IsItem x × (bytes ≡ item_bytes x)

-- two items with one spelling are one
abbrev pub OneItem : Type 0
OneItem = (a b : Item) → IsItem a → IsItem b → item_bytes a ≡ item_bytes b → a ≡ b

-- no item within its limits is longer than the longest
abbrev pub ItemIsShort : Type 0
ItemIsShort = (x : Item) → IsItem x → length (item_bytes x) ≤ MAX_ITEM

-- the kinds and the limits
abbrev pub LimitsAre : Type 0
LimitsAre = (QUOTED_ITEM ∷ DELIVERED_ITEM ∷ ENDORSED_ITEM ∷ SETTLED_ITEM ∷ [] ≡ 1 ∷ 2 ∷ 3 ∷ 4 ∷ []) × (MAX_ITEM ≡ 297) × (MAX_PART ≡ 167) × (LAST_SERIAL ≡ 4294967295)
