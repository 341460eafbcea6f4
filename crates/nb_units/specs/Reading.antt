-- What a `Cut` is seen as: all the bytes, and how many of them were read.
use Rattle.std.specs.Prelude.{ℕ, List}

pub record Reading : Type 0 where
  pub bytes : List ℕ
  pub place : ℕ
