-- What a disk tells of itself to a contract.
use Rattle.std.specs.Prelude.{ℕ, List, Option}

pub record DiskTells (D : Type 0) : Type 1 where
  -- the count of failures. It never falls, and a call that fails raises it. At 2^64 - 1 it stays, and counts as risen
  pub faults : D → ℕ
  -- the bytes from place 0 on; None where the disk does not tell
  pub content : D → Option (List ℕ)
  -- the images that a stop now may leave, as far as they are known; none where the disk does not tell
  pub allowed : D → List ℕ → Type 0
  -- how far time went. It never falls
  pub moment : D → ℕ
  -- the images that a stop at a moment since that one may have left, within calls too, as far as they are known
  pub left : D → ℕ → List ℕ → Type 0
