-- What holds of every disk in memory, whatever its start and its steps.
use Rattle.std.specs.Prelude.{◌≡◌, ◌⊎◌, ◌↔◌, ℕ, ◌<◌, ◌≤◌, ◌+◌, List, [], ◌∷◌, ◌++◌, length, get_or, ⊤}
use Rattle.nb_port.specs.Disk.{Torn}
use Rattle.nb_port.specs.Images.{Range, fresh, after, Images, image_from}
use Rattle.nb_port.specs.declared.memory.step.DiskStep.{DiskStep}
use Rattle.nb_port.specs.declared.memory.step.DiskStep.TheVariants.{Pause, Wrote, Tore, Synced}
use Rattle.nb_port.specs.declared.memory.fill.Fill.{Fill}
use Rattle.nb_port.specs.declared.memory.fill.Fill.TheVariants.{Old, New}

-- ---- the set of images, by its durable length and its ranges

-- a place lies in none of the ranges
abbrev pub Free : List Range → ℕ → Type 0
Free [] i = ⊤
Free (w ∷ ws) i = ((i < w.0) ⊎ (w.0 + length w.1 ≤ i)) × Free ws i

-- an image that has at least the durable length, and below it the bytes of the content at each place that no range has
pub record Agrees (durable : ℕ) (pending : List Range) (bytes image : List ℕ) : Type 0 where
  pub no_shorter : durable ≤ length image
  pub same : (i : ℕ) → i < durable → Free pending i → get_or image i 0 ≡ get_or bytes i 0

-- the images of a disk with this content, durable length and pending ranges: the content alone where no range is pending
abbrev pub ByRanges : List ℕ → ℕ → List Range → List ℕ → Type 0
ByRanges content durable [] image = image ≡ content
ByRanges content durable (w ∷ ws) image = Agrees durable (w ∷ ws) content image

-- these are what a stop may leave, and nothing else
abbrev pub LeavesByRanges : Type 0
LeavesByRanges = (start : List ℕ) (steps : List DiskStep) (image : List ℕ) → let s = after (fresh start) steps in
    Images start steps image ↔ ByRanges s.content (length s.kept) s.pending image

-- ---- one call

-- after a sync that is done a stop leaves the content and nothing else
abbrev pub SyncedLeavesOne : Type 0
SyncedLeavesOne = (start : List ℕ) (steps : List DiskStep) (image : List ℕ) →
    Images start (steps ++ Pause ∷ Synced ∷ []) image ↔ (image ≡ (after (fresh start) steps).content)

-- Within a call whose first step is this one, n bytes at a place are torn: the images are those after the call, each is one
-- from before it that was torn there, and those from before it are among them
pub record TornBy (first : DiskStep) (place n : ℕ) : Type 0 where
  pub torn : (start : List ℕ) (steps : List DiskStep) (image : List ℕ) →
      Images start (steps ++ first ∷ []) image ↔ ((old : List ℕ) × Images start steps old × Torn place n old image)
  pub before : (start : List ℕ) (steps : List DiskStep) (image : List ℕ) →
      Images start steps image → Images start (steps ++ first ∷ []) image
  pub behind : (start : List ℕ) (steps : List DiskStep) (image : List ℕ) →
      Images start (steps ++ first ∷ []) image ↔ Images start (steps ++ first ∷ Pause ∷ []) image

-- so is a write, one that is done and one that failed
abbrev pub TornWithin : Type 0
TornWithin = (place : ℕ) (bytes : List ℕ) →
    TornBy (Wrote place bytes) place (length bytes) × TornBy (Tore place bytes) place (length bytes)

-- one pause, as within a read and within a sync, and two, as behind a read and behind a sync that failed, leave what was left
pub record PausesChangeNothing : Type 0 where
  pub within : (start : List ℕ) (steps : List DiskStep) (image : List ℕ) →
      Images start (steps ++ Pause ∷ []) image ↔ Images start steps image
  pub behind : (start : List ℕ) (steps : List DiskStep) (image : List ℕ) →
      Images start (steps ++ Pause ∷ Pause ∷ []) image ↔ Images start steps image

-- ---- the images that are computed

-- whatever the fill, it is one of the images
abbrev pub FilledIsAllowed : Type 0
FilledIsAllowed = (start : List ℕ) (steps : List DiskStep) (fill : Fill) → Images start steps (image_from fill start start steps)

-- with fill Old it is what was kept
abbrev pub OldIsKept : Type 0
OldIsKept = (start : List ℕ) (steps : List DiskStep) → image_from Old start start steps ≡ (after (fresh start) steps).kept

-- no write failed
abbrev pub NoneTore : List DiskStep → Type 0
NoneTore [] = ⊤
NoneTore (Pause ∷ xs) = NoneTore xs
NoneTore (Wrote place bytes ∷ xs) = NoneTore xs
NoneTore (Tore place bytes ∷ xs) = ⊥
NoneTore (Synced ∷ xs) = NoneTore xs

-- with fill New it is the content where no write failed
abbrev pub NewIsContent : Type 0
NewIsContent = (start : List ℕ) (steps : List DiskStep) → NoneTore steps →
    image_from New start start steps ≡ (after (fresh start) steps).content
