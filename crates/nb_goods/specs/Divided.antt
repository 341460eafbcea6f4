-- What `Parts` is seen as: the key, the iv of the goods, and of the sealed goods how long they are and their digest.
use Rattle.std.specs.Prelude.{ℕ, List}

pub record Divided : Type 0 where
  pub key : List ℕ
  pub iv : List ℕ
  pub total : ℕ
  pub checksum : List ℕ
