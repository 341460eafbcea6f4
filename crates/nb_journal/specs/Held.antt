-- What is held of a disk while a journal is opened.
use Rattle.std.specs.Prelude.{ℕ, List}

-- bytes from a place on, and how many were asked for
pub record Held : Type 0 where
  pub place : ℕ
  pub asked : ℕ
  pub bytes : List ℕ
