-- A journal that was at rest and was appended to: what it holds then, and what a stop leaves meanwhile.
use Rattle.std.specs.Prelude.{◌≡◌, ◌⊎◌, ℕ, ◌≤◌, false, List, [], ◌∷◌, ◌++◌, length, take, Ok}
use Rattle.nb_port.specs.Tells.{DiskTells}
use Rattle.nb_journal.specs.declared.journal.Journal.{Journal}
use Rattle.nb_journal.specs.Stands.{Stands, BeforeOrAfter}
use Rattle.nb_journal.specs.States.{AtRest, HasGate, SameLimits, AppendGives}
use Rattle.nb_journal.specs.Time.{LeavesOnly}

-- nothing is in doubt, with some front and some items
abbrev pub IsAtRest : {D : Type 0} → DiskTells D → Journal D → Type 0
IsAtRest tells j = (front : List ℕ) × (items : List (List ℕ)) × AtRest tells front items j

-- the image stands for the items with the first so many of those that were kept
abbrev pub StandsAmong : List ℕ → List (List ℕ) → List (List ℕ) → List ℕ → Type 0
StandsAmong front items kept image = (n : ℕ) × (n ≤ length kept) × Stands front (items ++ take n kept) image

-- a stop since any moment up to the first disk's left what it might have left by then, or what has P
pub record StopsIn {D : Type 0} (tells : DiskTells D) (old new : D) (P : List ℕ → Type 0) : Type 0 where
  pub later : tells.moment old ≤ tells.moment new
  pub since : (t : ℕ) (c : List ℕ) → t ≤ tells.moment old → tells.left new t c → tells.left old t c ⊎ P c

-- the journal grew by these items and by nothing else: at rest before, it is at rest with them behind the others, and a stop meanwhile
-- left the items with the first so many of these; the limits stay
pub record Grows {D : Type 0} (tells : DiskTells D) (old new : Journal D) (kept : List (List ℕ)) : Type 0 where
  pub items : (front : List ℕ) (items : List (List ℕ)) → AtRest tells front items old → AtRest tells front (items ++ kept) new
  pub stops : (front : List ℕ) (items : List (List ℕ)) → AtRest tells front items old
      → StopsIn tells old.disk new.disk (StandsAmong front items kept)
  pub room : new.room ≡ old.room
  pub cap : new.cap ≡ old.cap
  pub count : tells.faults old.disk ≤ tells.faults new.disk

-- ---- laws

-- a journal at rest may be appended to: no item is in doubt, and the gate's place is within the content
abbrev pub RestMayAppend : {D : Type 0} → DiskTells D → Type 0
RestMayAppend {D} tells = (j : Journal D) → IsAtRest tells j → (j.stale ≡ false) × HasGate tells j

-- an append that said Ok, by its clauses, made the journal grow by its item
abbrev pub AppendGrows : {D : Type 0} → DiskTells D → Type 0
AppendGrows {D} tells = (old new : Journal D) (item : List ℕ) → AppendGives tells old new item (Ok tt) → SameLimits old new
    → tells.faults old.disk ≤ tells.faults new.disk
    → ((front : List ℕ) (items : List (List ℕ)) → AtRest tells front items old → LeavesOnly tells old.disk new.disk (BeforeOrAfter front items item))
    → Grows tells old new (item ∷ [])

-- a journal to which nothing was done grew by nothing
abbrev pub StaysGrows : {D : Type 0} → DiskTells D → Type 0
StaysGrows {D} tells = (old new : Journal D) → new ≡ old → Grows tells old new []

-- what grew by these items and then by those grew by both
abbrev pub GrowsTwice : {D : Type 0} → DiskTells D → Type 0
GrowsTwice {D} tells = (old mid new : Journal D) (kept more : List (List ℕ)) → Grows tells old mid kept → Grows tells mid new more
    → Grows tells old new (kept ++ more)

-- what was at rest and grew is at rest
abbrev pub GrowsToRest : {D : Type 0} → DiskTells D → Type 0
GrowsToRest {D} tells = (old new : Journal D) (kept : List (List ℕ)) → IsAtRest tells old → Grows tells old new kept → IsAtRest tells new

-- a stop at any moment since a journal was at rest, while it grew, leaves its items with the first so many of those that were kept
abbrev pub StopLeavesSome : {D : Type 0} → DiskTells D → Type 0
StopLeavesSome {D} tells = (old new : Journal D) (front : List ℕ) (items kept : List (List ℕ)) → AtRest tells front items old → Grows tells old new kept
    → (image : List ℕ) → tells.left new.disk (tells.moment old.disk) image → StandsAmong front items kept image
