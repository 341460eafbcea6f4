-- What a stop may leave while calls go on.
use Rattle.std.specs.Prelude.{◌≡◌, ◌⊎◌, ℕ, ◌≤◌, List}
use Rattle.nb_port.specs.Tells.{DiskTells}
use Rattle.nb_port.specs.Disk.{Torn, SameImages, NoneNew}

-- a stop since t left what it might have left before, or what has P
pub record Since (P : List ℕ → Type 0) (before now : ℕ) (past since : ℕ → List ℕ → Type 0) : Type 0 where
  pub later : before ≤ now
  pub each : (t : ℕ) (c : List ℕ) → t ≤ before → since t c → past t c ⊎ P c

-- an image, or one that is torn from it
abbrev pub TornOf : (List ℕ → Type 0) → ℕ → ℕ → List ℕ → Type 0
TornOf images place n c = (d : List ℕ) × images d × Torn place n d c

-- a stop at any moment since old leaves an image that has P
pub record LeavesOnly {D : Type 0} (tells : DiskTells D) (old new : D) (P : List ℕ → Type 0) : Type 0 where
  pub later : tells.moment old ≤ tells.moment new
  pub each : (c : List ℕ) → tells.left new (tells.moment old) c → P c
  -- since an earlier moment: what it might have left by then, or such an image
  pub before : (t : ℕ) (c : List ℕ) → t ≤ tells.moment old → tells.left new t c → tells.left old t c ⊎ P c

-- nothing was written: the content is the same, and a stop leaves exactly what it left before
pub record Untouched {D : Type 0} (tells : DiskTells D) (old new : D) : Type 0 where
  pub same : tells.content new ≡ tells.content old
  pub images : SameImages (tells.allowed old) (tells.allowed new)
  pub time : Since (tells.allowed old) (tells.moment old) (tells.moment new) (tells.left old) (tells.left new)

-- nothing was written, but there may have been a sync: the content is the same, and a stop leaves nothing that it did not leave
-- before
pub record Unwritten {D : Type 0} (tells : DiskTells D) (old new : D) : Type 0 where
  pub same : tells.content new ≡ tells.content old
  pub images : NoneNew (tells.allowed old) (tells.allowed new)
  pub time : Since (tells.allowed old) (tells.moment old) (tells.moment new) (tells.left old) (tells.left new)
