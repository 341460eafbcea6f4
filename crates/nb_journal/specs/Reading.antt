-- What is read from an image, from its front on, and the first fault of one that is no journal.
use Rattle.std.specs.Prelude.{◌≡◌, ◌⊎◌, ℕ, zero, suc, ◌+◌, ◌-◌, List, [], ◌∷◌, ◌++◌, length, take, drop, replicate, nat_lt, ◌==◌, if◌then◌else◌}
use Rattle.std.specs.Int.{w32, from_be_bytes}
use Rattle.nb_units.specs.declared.charter.Charter.{Charter}
use Rattle.nb_journal.specs.declared.limits.TheConstants.{FRONT, MAX_ITEM}
use Rattle.nb_journal.specs.Layout.{IsMagic, front_bytes, AreTerms, open_gate}

-- ---- one record

-- what stands where a gate should: a gate that is not open, an open one with an item behind it, or neither
pub data Seen : Type 0 where
  Shut : Seen
  Item : List ℕ → List ℕ → Seen
  Broken : Seen

-- behind a length: it is too great, or fewer bytes are there, or they are the item
unfoldable pub item_of : ℕ → List ℕ → Seen
item_of n bytes = if nat_lt MAX_ITEM n then Broken else if nat_lt (length bytes) n then Broken else Item (take n bytes) (drop n bytes)

-- behind an open gate: the four bytes of the length, or fewer
unfoldable pub behind_gate : List ℕ → Seen
behind_gate bytes = if nat_lt (length bytes) 4 then Broken else item_of (from_be_bytes w32 (take 4 bytes)) (drop 4 bytes)

-- from a gate on
unfoldable pub first_of : List ℕ → Seen
first_of [] = Broken
first_of (gate ∷ bytes) = if gate == open_gate then behind_gate bytes else Shut

-- ---- all records

-- what is read from the first gate on: these items and then a gate that is not open, or a fault with the number of its item and the
-- place of its gate
pub data Found : Type 0 where
  Whole : List (List ℕ) → Found
  Fault : ℕ → ℕ → Found

-- one record behind these items, whose gate stands at the place
abbrev pub reads_on : (List (List ℕ) → ℕ → List ℕ → Found) → List (List ℕ) → ℕ → Seen → Found
reads_on more items place Shut = Whole items
reads_on more items place Broken = Fault (length items) place
reads_on more items place (Item item rest) = more (items ++ item ∷ []) (place + (length item + 5)) rest

-- so many items may still follow these
unfoldable pub items_from : ℕ → List (List ℕ) → ℕ → List ℕ → Found
items_from zero items place bytes = reads_on (λ more place' rest. Fault (length items) place) items place (first_of bytes)
items_from (suc left) items place bytes = reads_on (items_from left) items place (first_of bytes)

-- ---- an image

-- its first eight bytes, where missing ones are zeros
abbrev pub found_in : List ℕ → List ℕ
found_in image = take 8 image ++ replicate (8 - length image) 0

-- the image is a journal with this cap, this charter and these items
pub record Holds (image : List ℕ) (cap : ℕ) (charter : Charter) (items : List (List ℕ)) : Type 0 where
  pub terms : AreTerms cap charter
  pub front : take FRONT image ≡ front_bytes cap charter
  pub found : items_from cap [] FRONT (drop FRONT image) ≡ Whole items

-- it has no front: it ends within it, or the cap is out of its range, or the rate is none of its version, or the zeros are not zeros
abbrev pub NoFront : List ℕ → Type 0
NoFront image = (cap : ℕ) (charter : Charter) → AreTerms cap charter → take FRONT image ≡ front_bytes cap charter → ⊥

-- it has a front, and this is the first fault behind it
pub record ItemFault (image : List ℕ) (item place : ℕ) : Type 0 where
  pub cap : ℕ
  pub charter : Charter
  pub terms : AreTerms cap charter
  pub front : take FRONT image ≡ front_bytes cap charter
  pub found : items_from cap [] FRONT (drop FRONT image) ≡ Fault item place

-- it begins with a magic and is no journal: this is the first fault, at item 0 and place 8 where it has no front
pub record IsDamaged (image : List ℕ) (item place : ℕ) : Type 0 where
  pub begins : IsMagic (found_in image)
  pub fault : ((item ≡ 0) × (place ≡ 8) × NoFront image) ⊎ ItemFault image item place

-- it begins with no magic, but with this
abbrev pub IsUnborn : List ℕ → List ℕ → Type 0
IsUnborn image found = (found ≡ found_in image) × (IsMagic found → ⊥)
