-- Two lists of bytes that SHA-256 does not tell apart.
use Rattle.std.specs.Prelude.{◌≡◌, ◌≢◌, ℕ, List}
use Rattle.sha2.specs.Sha256.{sha256}

-- two different lists have one digest
pub record Collision (one other : List ℕ) : Type 0 where
  pub differ : one ≢ other
  pub same_digest : sha256 one ≡ sha256 other
