-- What a stop leaves of a disk in memory, which keeps its start and two steps for each of its calls. The moment is how many
-- steps were made: after call i it is 2i, and within that call 2i - 1.
use Rattle.std.specs.Prelude.{◌≡◌, ℕ, ◌≤◌, List, [], ◌∷◌, ◌++◌, length, take, replicate, Bool, if◌then◌else◌}
use Rattle.nb_port.specs.Disk.{put_at, Torn, SameImages, NoneNew, NoneLost, Follows, Elapses}
use Rattle.nb_port.specs.declared.memory.step.DiskStep.{DiskStep}
use Rattle.nb_port.specs.declared.memory.step.DiskStep.TheVariants.{Pause, Wrote, Tore, Synced}
use Rattle.nb_port.specs.declared.memory.fill.Fill.{Fill}
use Rattle.nb_port.specs.declared.memory.fill.Fill.TheVariants.{Old, New, Byte}

-- a write: its place and its bytes
abbrev pub Range : Type 0
Range = ℕ × List ℕ

-- the content, what it was at the last sync that was done, and the writes since, the newest first
pub record Told : Type 0 where
  pub content : List ℕ
  pub kept : List ℕ
  pub pending : List Range

-- at the start the content is kept, and nothing is pending
abbrev pub fresh : List ℕ → Told
fresh start = record { content = start; kept = start; pending = [] }

-- one step: a write that is done, one that failed, a sync that is done
abbrev pub step : Told → DiskStep → Told
step s Pause = s
step s (Wrote place bytes) =
    record { content = put_at s.content place bytes; kept = s.kept; pending = (place, bytes) ∷ s.pending }
step s (Tore place bytes) = record { content = s.content; kept = s.kept; pending = (place, bytes) ∷ s.pending }
step s Synced = record { content = s.content; kept = s.content; pending = [] }

-- what all steps make of it, one after another
abbrev pub after : Told → List DiskStep → Told
after s [] = s
after s (x ∷ xs) = after (step s x) xs

-- what a stop may leave of what was kept: each write since is torn
abbrev pub Leaves : List ℕ → List Range → List ℕ → Type 0
Leaves kept [] c = c ≡ kept
Leaves kept (w ∷ ws) c = (d : List ℕ) × Leaves kept ws d × Torn w.0 (length w.1) d c

-- what a stop may leave: what was kept, with each pending write torn
abbrev pub Allowed : Told → List ℕ → Type 0
Allowed s c = Leaves s.kept s.pending c

-- what a stop may leave after these steps from a start
abbrev pub Images : List ℕ → List DiskStep → List ℕ → Type 0
Images start steps = Allowed (after (fresh start) steps)

-- what a stop may leave at a moment since t
abbrev pub LeftFrom : List ℕ → List DiskStep → ℕ → List ℕ → Type 0
LeftFrom start steps t c = (m : ℕ) × (t ≤ m) × (m ≤ length steps) × Images start (take m steps) c

-- ---- what two more steps do, for the contracts of private functions

-- the steps behind a call that made these two, where it is recorded
abbrev pub recorded : Bool → List DiskStep → DiskStep → DiskStep → List DiskStep
recorded ok steps first second = if ok then steps ++ first ∷ second ∷ [] else steps

-- the content is a function of what it was
abbrev pub Lands : (List ℕ → List ℕ) → List DiskStep → List DiskStep → Type 0
Lands f old new = (start : List ℕ) → (after (fresh start) new).content ≡ f (after (fresh start) old).content

-- time went on
abbrev pub Passes : List DiskStep → List DiskStep → Type 0
Passes old new = (start : List ℕ) →
    Elapses (length old) (length new) (LeftFrom start old) (LeftFrom start new) (Images start new)

-- the images and the content stay
pub record Quiet (old new : List DiskStep) : Type 0 where
  pub images : (start : List ℕ) → SameImages (Images start old) (Images start new)
  pub time : Passes old new
  pub content : Lands (λ bytes. bytes) old new

-- no image is new, and the content stays
pub record Syncs (old new : List DiskStep) : Type 0 where
  pub images : (start : List ℕ) → NoneNew (Images start old) (Images start new)
  pub time : Passes old new
  pub content : Lands (λ bytes. bytes) old new

-- each image is torn from one before, and those from before are among them
pub record Writes (place n : ℕ) (old new : List DiskStep) : Type 0 where
  pub images : (start : List ℕ) → Follows (Torn place n) (Images start old) (Images start new)
  pub kept : (start : List ℕ) → NoneLost (Images start old) (Images start new)
  pub time : Passes old new

-- the content alone is left
abbrev pub Settles : List DiskStep → Type 0
Settles new = (start c : List ℕ) → Images start new c → c ≡ (after (fresh start) new).content

-- ---- an image, computed

-- what a fill makes of a write of bytes at a place of an image
abbrev pub filled : Fill → List ℕ → ℕ → List ℕ → List ℕ
filled Old image place bytes = image
filled New image place bytes = put_at image place bytes
filled (Byte b) image place bytes = put_at image place (replicate (length bytes) b)

-- The image that a fill gives after these steps, from a content and the image there. A sync that is done leaves the content
abbrev pub image_from : Fill → List ℕ → List ℕ → List DiskStep → List ℕ
image_from fill content image [] = image
image_from fill content image (Pause ∷ xs) = image_from fill content image xs
image_from fill content image (Wrote place bytes ∷ xs) =
    image_from fill (put_at content place bytes) (filled fill image place bytes) xs
image_from fill content image (Tore place bytes ∷ xs) = image_from fill content (filled fill image place bytes) xs
image_from fill content image (Synced ∷ xs) = image_from fill content content xs

-- the image at a moment of a disk with this start and these steps
abbrev pub image_at : List ℕ → List DiskStep → ℕ → Fill → List ℕ
image_at start steps moment fill = image_from fill start start (take moment steps)
