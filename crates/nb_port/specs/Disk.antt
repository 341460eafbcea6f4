-- What the calls of a disk give, and what they leave where the system stops. Content and images are known where the disk
-- tells; a disk that does not tell has no content and no image that is known.
--
-- An image is a list of bytes that a stop may leave. Between two syncs that are done a stop may leave any bytes in each written
-- range and past the end at the first of them; all other bytes stay. After a sync that is done a stop leaves the content.
use Rattle.std.specs.Prelude.{◌≡◌, ◌⊎◌, ℕ, ◌+◌, ◌-◌, ◌≤◌, List, ◌++◌, Option, Some, None, length, take, drop, min, max, ⊤, ◌↔◌}
use Rattle.nb_port.specs.Faults.{Rose}
use Rattle.nb_port.specs.declared.disk.DiskRead.{DiskRead}
use Rattle.nb_port.specs.declared.disk.DiskRead.TheVariants as reads
use Rattle.nb_port.specs.declared.disk.DiskOut.{DiskOut}
use Rattle.nb_port.specs.declared.disk.DiskOut.TheVariants as outs

-- ---- reading

-- n bytes were read at a place of the content: fewer than there is room for only where the content ends
abbrev pub ReadsContent : Option (List ℕ) → ℕ → ℕ → List ℕ → ℕ → Type 0
ReadsContent None place room buf n = ⊤
ReadsContent (Some content) place room buf n = (n ≡ min room (length content - place)) × (take n buf ≡ take n (drop place content))

-- the count of faults before and after, the content, the place, the room for bytes, the bytes there now
abbrev pub DiskReadGives : ℕ → ℕ → Option (List ℕ) → ℕ → ℕ → List ℕ → DiskRead → Type 0
DiskReadGives before after content place room buf (reads.Got n) = (n ≤ room) × ReadsContent content place room buf n
DiskReadGives before after content place room buf reads.Failed = Rose before after

-- ---- writing

-- the bytes put at a place of others: over what stands there, and past the end
unfoldable pub put_at : List ℕ → ℕ → List ℕ → List ℕ
put_at old place bytes = take place old ++ bytes ++ drop (place + length bytes) old

-- the content behind a write that is done
abbrev pub wrote_at : Option (List ℕ) → ℕ → List ℕ → Option (List ℕ)
wrote_at None place bytes = None
wrote_at (Some old) place bytes = Some (put_at old place bytes)

-- any bytes in the range of n bytes at a place and past the old end; below the old end all others as they were
pub record Torn (place n : ℕ) (old new : List ℕ) : Type 0 where
  pub no_shorter : length old ≤ length new
  pub before : take place (take (length old) new) ≡ take place old
  pub after : drop (place + n) (take (length old) new) ≡ drop (place + n) old

-- the content behind a write that failed: torn, and its end is not past the later of the old end and the range's
abbrev pub MayTear : Option (List ℕ) → Option (List ℕ) → ℕ → ℕ → Type 0
MayTear None None place n = ⊤
MayTear None (Some new) place n = ⊥
MayTear (Some old) None place n = ⊥
MayTear (Some old) (Some new) place n = Torn place n old new × (length new ≤ max (length old) (place + n))

-- the counts of faults, the contents before and after, the place, the bytes
abbrev pub DiskWriteGives : ℕ → ℕ → Option (List ℕ) → Option (List ℕ) → ℕ → List ℕ → DiskOut → Type 0
DiskWriteGives before after old new place piece outs.Done = new ≡ wrote_at old place piece
DiskWriteGives before after old new place piece outs.Failed = Rose before after × MayTear old new place (length piece)

-- ---- images

-- a stop leaves the content and nothing else
abbrev pub Only : Option (List ℕ) → (List ℕ → Type 0) → Type 0
Only content images = (c : List ℕ) → images c → content ≡ Some c

-- the images are the same
abbrev pub SameImages : (List ℕ → Type 0) → (List ℕ → Type 0) → Type 0
SameImages old new = (c : List ℕ) → new c ↔ old c

-- each new image is an old one
abbrev pub NoneNew : (List ℕ → Type 0) → (List ℕ → Type 0) → Type 0
NoneNew old new = (c : List ℕ) → new c → old c

-- each old image is still one
abbrev pub NoneLost : (List ℕ → Type 0) → (List ℕ → Type 0) → Type 0
NoneLost old new = (c : List ℕ) → old c → new c

-- the counts of faults, the content, the images before and after
abbrev pub DiskSyncGives : ℕ → ℕ → Option (List ℕ) → (List ℕ → Type 0) → (List ℕ → Type 0) → DiskOut → Type 0
DiskSyncGives before after content old new outs.Done = Only content new
DiskSyncGives before after content old new outs.Failed = Rose before after × SameImages old new

-- each new image is an old one after a step
abbrev pub Follows : (List ℕ → List ℕ → Type 0) → (List ℕ → Type 0) → (List ℕ → Type 0) → Type 0
Follows step old new = (c : List ℕ) → new c → (d : List ℕ) × old d × step d c

-- Time goes on: a stop since t might have left what it might have left before, or what it may leave now. Within a call a stop
-- leaves what it leaves before the call or after it
pub record Elapses (before now : ℕ) (past since : ℕ → List ℕ → Type 0) (images : List ℕ → Type 0) : Type 0 where
  pub later : before ≤ now
  pub nothing_else : (t : ℕ) (c : List ℕ) → t ≤ before → since t c → past t c ⊎ images c
  pub keeps : (t : ℕ) (c : List ℕ) → t ≤ before → past t c → since t c
