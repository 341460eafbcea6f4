-- What is kept of a step, in a journal that is at rest.
use Rattle.std.specs.Prelude.{◌≡◌, ℕ, ◌≤◌, List, [], ◌∷◌, ◌++◌, Option, Some, None, Result, Ok, Err, length}
use Rattle.std.specs.List.{AllByRecursion}
use Rattle.nb_port.specs.Tells.{DiskTells}
use Rattle.nb_port.specs.Faults.{Rose}
use Rattle.nb_journal.specs.declared.journal.Journal.{Journal}
use Rattle.nb_journal.specs.declared.limits.TheConstants.{MAX_ITEM}
use Rattle.nb_journal.specs.Stands.{BeforeOrAfter}
use Rattle.nb_journal.specs.States.{AtRest, InDoubt}
use Rattle.nb_journal.specs.Growing.{Grows, StopsIn, StandsAmong}
use Rattle.nb_trade.specs.declared.lost.Lost.{Lost}
use Rattle.nb_trade.specs.declared.lost.Lost.TheVariants as lost

-- an item, if there is one
abbrev pub items_of : Option (List ℕ) → List (List ℕ)
items_of (Some item) = item ∷ []
items_of None = []

-- none of the items is longer than one may be
abbrev pub AreShort : List (List ℕ) → Type 0
AreShort items = AllByRecursion (λ item. length item ≤ MAX_ITEM) items

-- why these items, one or none, were not kept: there was no memory, or as many items are held as may be, and nothing was done; or the disk failed. Then
-- the item is in doubt, and a stop meanwhile left the items without it or with it
abbrev pub NotKept : {D : Type 0} → DiskTells D → Journal D → Journal D → List (List ℕ) → Lost → Type 0
NotKept tells old new items lost.NoMemory = new ≡ old
NotKept tells old new items (lost.Full cap) = (new ≡ old) × (cap ≡ old.cap) × (old.cap ≤ old.len) × ((item : List ℕ) × (items ≡ item ∷ []))
NotKept {D} tells old new items (lost.DiskFault before after) =
    (before ≡ tells.faults old.disk) × (after ≡ tells.faults new.disk) × Rose before after
    × ((item : List ℕ) × (items ≡ item ∷ [])
    × ((front : List ℕ) (held : List (List ℕ)) → AtRest tells front held old
    → InDoubt tells front held item new × StopsIn tells old.disk new.disk (BeforeOrAfter front held item)))

-- the journal grew by the items, one or none, or they were not kept. It takes no memory
abbrev pub Keeps : {D : Type 0} → DiskTells D → Journal D → Journal D → List (List ℕ) → Result (Unit {0}) Lost → Type 0
Keeps tells old new items (Ok done) = Grows tells old new items
Keeps tells old new items (Err lost.NoMemory) = ⊥
Keeps tells old new items (Err (lost.Full cap)) = NotKept tells old new items (lost.Full cap)
Keeps tells old new items (Err (lost.DiskFault before after)) = NotKept tells old new items (lost.DiskFault before after)

-- a stop at any moment since a journal was at rest, while it grew by some items and then an item was not kept, leaves its items with the first so many of all
-- these
abbrev pub StopLeavesFirst : {D : Type 0} → DiskTells D → Type 0
StopLeavesFirst {D} tells = (old mid new : Journal D) (front : List ℕ) (items kept more : List (List ℕ)) (why : Lost) → AtRest tells front items old → Grows tells old mid kept
    → NotKept tells mid new more why → (image : List ℕ) → tells.left new.disk (tells.moment old.disk) image → StandsAmong front items (kept ++ more) image

-- what a journal holds behind items that it grew by is never more than its cap
abbrev pub GrowsWithin : {D : Type 0} → DiskTells D → Type 0
GrowsWithin {D} tells = (old new : Journal D) (front : List ℕ) (items kept : List (List ℕ)) → AtRest tells front items old → Grows tells old new kept → length (items ++ kept) ≤ old.cap
