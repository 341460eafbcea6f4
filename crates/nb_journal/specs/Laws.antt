-- What holds of every image.
use Rattle.std.specs.Prelude.{◌≡◌, ◌⊎◌, ℕ, ◌+◌, ◌*◌, ◌<◌, ◌≤◌, List, ◌∷◌, ◌++◌, codes, length, replicate}
use Rattle.std.specs.List.{AllByRecursion}
use Rattle.nb_units.specs.Fields.{be2, be4}
use Rattle.nb_units.specs.Frames.{AreBytes}
use Rattle.nb_units.specs.declared.charter.Charter.{Charter}
use Rattle.nb_units.specs.declared.limits.TheConstants.{HEAD, MAX_CAP, FIRST_VERSION, FEE_VERSION}
use Rattle.nb_journal.specs.declared.limits.TheConstants.{EMPTY, FRONT, MAX_IMAGE, MAX_ITEM}
use Rattle.nb_journal.specs.Layout.{magic, front_bytes, AreTerms, IsItem, item_bytes, zeros_behind}
use Rattle.nb_journal.specs.Reading.{Holds, IsDamaged, IsUnborn}
use Rattle.nb_journal.specs.Stands.{Stands}

-- an image that stands for items, none of them too long and no more than the cap, behind terms that a journal may have, is read as a journal with these items
abbrev pub StandsIsRead : Type 0
StandsIsRead = (image : List ℕ) (charter : Charter) (cap : ℕ) (items : List (List ℕ)) → AreTerms cap charter → AllByRecursion IsItem items → length items ≤ cap
    → Stands (front_bytes cap charter) items image → Holds image cap charter items

-- what is read as a journal with items stands for these items
pub record IsRead (image : List ℕ) (cap : ℕ) (charter : Charter) (items : List (List ℕ)) : Type 0 where
  pub stands : Stands (front_bytes cap charter) items image
  pub fit : AllByRecursion IsItem items
  pub count : length items ≤ cap

-- for every image of bytes
abbrev pub ReadStands : Type 0
ReadStands = (image : List ℕ) (charter : Charter) (cap : ℕ) (items : List (List ℕ)) → AreBytes image → Holds image cap charter items → IsRead image cap charter items

-- an image is read as at most one journal
abbrev pub OneJournal : Type 0
OneJournal = (image : List ℕ) (charter charter' : Charter) (cap cap' : ℕ) (items items' : List (List ℕ)) → Holds image cap charter items → Holds image cap' charter' items'
    → (cap ≡ cap') × (charter ≡ charter') × (items ≡ items')

-- a journal is not damaged
abbrev pub WholeNotDamaged : Type 0
WholeNotDamaged = (image : List ℕ) (charter : Charter) (cap item place : ℕ) (items : List (List ℕ)) → Holds image cap charter items → IsDamaged image item place → ⊥

-- there is at most one first fault
abbrev pub OneFault : Type 0
OneFault = (image : List ℕ) (item item' place place' : ℕ) → IsDamaged image item place → IsDamaged image item' place' → (item ≡ item') × (place ≡ place')

-- what begins with no magic is neither
abbrev pub UnbornIsNeither : Type 0
UnbornIsNeither = (image found : List ℕ) (charter : Charter) (cap item place : ℕ) (items : List (List ℕ)) → IsUnborn image found
    → (Holds image cap charter items → ⊥) × (IsDamaged image item place → ⊥)

-- the front in either version, the first of which has no rate
abbrev pub FrontLayout : Type 0
FrontLayout = (cap : ℕ) (charter : Charter) → AreTerms cap charter → (length (front_bytes cap charter) ≡ FRONT)
    × (charter.version ≡ FIRST_VERSION → front_bytes cap charter ≡ magic FIRST_VERSION ++ (be4 cap ++ (charter.head ++ replicate 4 0)))
    × (charter.version ≡ FEE_VERSION → front_bytes cap charter ≡ magic FEE_VERSION ++ (be4 cap ++ (charter.head ++ (be2 charter.rate ++ replicate 2 0))))

-- the layout in numbers: a front of 96 bytes, a head of 80, 97 bytes without an item, an item of at most 2,097,152 that takes five more than its
-- own, and at most 268,435,456 bytes of an image that is laid
abbrev pub JournalLayout : Type 0
JournalLayout = (magic FIRST_VERSION ≡ codes "NBJRNL01") × (magic FEE_VERSION ≡ codes "NBJRNL02") × (FRONT ≡ 96) × (HEAD ≡ 80) × (EMPTY ≡ 97) × (MAX_ITEM ≡ 2097152) × (MAX_IMAGE ≡ 268435456) × (MAX_CAP ≡ 1000000) × FrontLayout
    × ((item : List ℕ) → (item_bytes item ≡ 0xA5 ∷ be4 (length item) ++ item) × (length (item_bytes item) ≡ 5 + length item))

-- an item of at most 32,768 bytes brings 131,072 zeros where its next gate reaches a multiple of 131,072, and else an item brings none
abbrev pub ZerosWhereReached : Type 0
ZerosWhereReached = (gate : ℕ) (item : List ℕ)
    → ((k : ℕ) → gate < k * 131072 → k * 131072 ≤ gate + (length item + 5) → length item ≤ 32768 → zeros_behind gate item ≡ 131072)
    × ((zeros_behind gate item ≡ 0) ⊎ ((length item ≤ 32768) × ((k : ℕ) × (gate < k * 131072) × (k * 131072 ≤ gate + (length item + 5)))))
