-- A disk over bytes that are lent, as contracts see it.
use Rattle.std.specs.Prelude.{◌≡◌, ℕ, List}

-- the bytes, which never change, and how many of its calls failed
pub record Lent : Type 0 where
  pub bytes : List ℕ
  pub faults : ℕ

-- a stop leaves the bytes
abbrev pub IsLent : Lent → List ℕ → Type 0
IsLent disk image = disk.bytes ≡ image
